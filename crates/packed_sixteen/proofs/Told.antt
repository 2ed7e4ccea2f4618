-- Numbers of 16 bits against figures of two bytes, told by their bytes turned round. Assumes nothing.
use Rattle.std.specs.Prelude.{if◌then◌else◌}
use Prim.Native.Nat.{ℕ, ◌+◌, ◌*◌, ◌/◌, ◌%◌, ◌≤◌, ◌<◌}
use native.Mathlib.Decide.{ℕ_discrete}
use native.Mathlib.Omega.{arith}
use mathlib.Core.Path.{◌≡◌, refl, sym, ◌∙◌}
use mathlib.Core.Bool.{Bool, true, false, not, ◌&&◌}
use mathlib.Core.List.{List}
use lib.Dec.{eqb, ltb}
use borrow.Author.Tests.{eq-eqb, ne_eqb, lt-ltb, le-ltb}
use Rattle.choice.specs.Pick.{count}
use Rattle.endian.specs.Big.{be16}
use Rattle.widths.proofs.Cells.{Small}
use Rattle.widths.proofs.Whole.{be2}
use Rattle.packed.specs.Packed.{packed, unlike_at, under_at}
use Rattle.packed.proofs.Laws.{eqb_same, count_next}
use Rattle.packed.proofs.Turned.{turned2, whole16}
use Rattle.packed_twos.specs.Twos.{twos}
use Rattle.packed_twos.proofs.Laws.{get_or-twos}
use Rattle.packed_twos.proofs.Seen.{loaded, loaded_back}

loaded_most : (l : List ℕ) → Small l → (j : ℕ) → loaded l j < 65536
loaded_most l b j = rw (← turned2 l (2 * j)) (omega (arith, b (2 * j), b (2 * j + 1)))

module _ (B F : List ℕ) (b : Small B) (f : Small F) (m j : ℕ) (h : j < m) where
  number_is : packed 4 B j ≡ be16 B (2 * j)
  number_is = whole16 B b j ∙ be2 B (2 * j)

  pub unlike_told : ◌≡◌ {A = ℕ} (if unlike_at 4 B (twos F m) j then 1 else 0) (if eqb (loaded B j) (loaded F j) then 0 else 1)
  unfolding unlike_at
  unlike_told =
      let x = loaded_back B b j in
      let y = loaded_back F f j in
      let p = loaded_most B b j in
      let q = loaded_most F f j in
      rw (number_is, get_or-twos F m j h, eqb_same (be16 B (2 * j)) (be16 F (2 * j)) (loaded B j) (loaded F j) (λ e. omega (arith, e, x, y, p, q)) (λ e. omega (arith, e, x, y)))
      (go (eqb (loaded B j) (loaded F j)))
    where
      go : (t : Bool) → ◌≡◌ {A = ℕ} (if not t then 1 else 0) (if t then 0 else 1)
      go true = refl
      go false = refl

  pub under-told : (x y : ℕ) → x ≡ loaded B j / 256 + loaded B j % 256 * 256 → y ≡ loaded F j / 256 + loaded F j % 256 * 256
      → ◌≡◌ {A = ℕ} (if under_at 4 B (twos F m) j then 1 else 0) (if ltb x y then 1 else 0)
  unfolding under_at
  under-told x y p q = rw (number_is, get_or-twos F m j h, loaded_back B b j, loaded_back F f j, p, q)

  -- one number more that is the figure
  pub alike_next : loaded B j ≡ loaded F j → (count (unlike_at 4 B (twos F m)) 0 j ≡ 0) × (count (under_at 4 B (twos F m)) 0 j ≡ 0)
      → (count (unlike_at 4 B (twos F m)) 0 (j + 1) ≡ 0) × (count (under_at 4 B (twos F m)) 0 (j + 1) ≡ 0)
  alike_next e s =
      let u : ◌≡◌ {A = ℕ} (if unlike_at 4 B (twos F m) j then 1 else 0) 0 = unlike_told ∙ rw (eq-eqb (loaded B j) (loaded F j) e) refl in
      let v : ◌≡◌ {A = ℕ} (if under_at 4 B (twos F m) j then 1 else 0) 0 =
      under-told (loaded B j / 256 + loaded B j % 256 * 256) (loaded F j / 256 + loaded F j % 256 * 256) refl refl
      ∙ rw (le-ltb (loaded B j / 256 + loaded B j % 256 * 256) (loaded F j / 256 + loaded F j % 256 * 256) (omega (arith, e))) refl in
      (omega (arith, count_next (unlike_at 4 B (twos F m)) j, s.0, u), omega (arith, count_next (under_at 4 B (twos F m)) j, s.1, v))

-- a number below a figure that is 0 or 1
pub zero-told : (B F : List ℕ) → Small B → Small F → (m j : ℕ) → j < m → be16 F (2 * j) ≤ 1 → (eqb (loaded B j) 0 && not (eqb (loaded F j) 0)) ≡ under_at 4 B (twos F m) j
unfolding under_at
zero-told B F b f m j h o = rw (number_is B F b f m j h, get_or-twos F m j h) (go (ℕ_discrete (loaded B j) 0) (ℕ_discrete (loaded F j) 0))
  where
    x : be16 B (2 * j) ≡ loaded B j / 256 + loaded B j % 256 * 256
    x = loaded_back B b j

    y : be16 F (2 * j) ≡ loaded F j / 256 + loaded F j % 256 * 256
    y = loaded_back F f j

    go : Dec (loaded B j ≡ 0) → Dec (loaded F j ≡ 0) → (eqb (loaded B j) 0 && not (eqb (loaded F j) 0)) ≡ ltb (be16 B (2 * j)) (be16 F (2 * j))
    go (no d) e = rw (ne_eqb (loaded B j) 0 d) (sym (le-ltb (be16 B (2 * j)) (be16 F (2 * j)) (omega (arith, x, o, d))))
    go (yes d) (yes e) = rw (eq-eqb (loaded B j) 0 d, eq-eqb (loaded F j) 0 e) (sym (le-ltb (be16 B (2 * j)) (be16 F (2 * j)) (omega (arith, y, e))))
    go (yes d) (no e) = rw (eq-eqb (loaded B j) 0 d, ne_eqb (loaded F j) 0 e) (sym (lt-ltb (be16 B (2 * j)) (be16 F (2 * j)) (omega (arith, x, y, d, e))))
