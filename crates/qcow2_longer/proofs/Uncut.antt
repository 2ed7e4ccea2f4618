-- The first image is one of its series, and all images of it with no block left to make are the same: the one that an uncut run leaves.
-- Assumes nothing.
use Prim.Native.Nat.{ℕ, zero, suc, ◌+◌, ◌-◌, ◌≤◌, ◌<◌}
use native.Mathlib.Nat.{le_refl}
use native.Mathlib.Decide.{ℕ_discrete, dec_lt}
use native.Mathlib.Omega.{arith}
use mathlib.Core.Path.{◌≡◌, refl, sym, ap, ◌∙◌, subst}
use mathlib.Core.Logic.{◌⊎◌, inl, inr}
use mathlib.Core.List.{List, []}
use lib.ListN.{length, get_or}
use lib.Seq.{ext_get_or}
use Rattle.endian.specs.Big.{be64}
use Rattle.widths.specs.Width.{be}
use Rattle.widths.proofs.Whole.{be8}
use Rattle.units.specs.Units.{apply_all}
use Rattle.qcow2_spec.specs.Header.{cluster_size, blocks}
use Rattle.qcow2_spec.specs.Rough.{after_rough}
use Rattle.qcow2_spec.proofs.Rough.{roughly-all}
use Rattle.qcow2_spec.specs.Series.{Bytes}
use Rattle.qcow2_longer.specs.Extend.{old_blocks, new_place, extend_number}
use Rattle.qcow2_longer.specs.Longer.{rest}
use Rattle.qcow2_longer.proofs.Between.{slot, New, Room, Apart, Between, AllMade}
use Rattle.qcow2_longer.proofs.Fields.{new_either, place-pos}
use Rattle.qcow2_longer.proofs.Made.{Cleared}
use Rattle.qcow2_longer.proofs.Turns.{turn, turn_finished}

-- all entries of s for new blocks are 0
abbrev pub NoneNamed : (s : List ℕ) (old : ℕ) → Type 0
NoneNamed s old = (i : ℕ) → New s old i → be64 s (slot s i) ≡ 0

pub between_start : {s : List ℕ} {old : ℕ} → Bytes s → NoneNamed s old → Between s old s
between_start b z = record { len = refl; small = b; same = λ x a. refl; started = inl refl; each = λ i n. inl (z i n) }

-- ---- a number tells its bytes
be-bytes : (k : ℕ) (l m : List ℕ) (at : ℕ) → Bytes l → Bytes m → be k l at ≡ be k m at → (x : ℕ) → x < k → get_or l (at + x) 0 ≡ get_or m (at + x) 0
unfolding be
be-bytes zero l m at b c e x h = absurd (omega arith)
be-bytes (suc k) l m at b c e x h = go (ℕ_discrete x k) (be-bytes k l m at b c (omega (arith, b (at + k), c (at + k))) x)
  where
    low : get_or l (at + k) 0 ≡ get_or m (at + k) 0
    low = omega (arith, e, b (at + k), c (at + k))

    go : Dec (x ≡ k) → (x < k → get_or l (at + x) 0 ≡ get_or m (at + x) 0) → get_or l (at + x) 0 ≡ get_or m (at + x) 0
    go (yes q) f = rw q low
    go (no d) f = f (omega arith)

-- ---- byte x is one of the n bytes from at on, or not
abbrev In : (at n x : ℕ) → Type 0
In at n x = (at ≤ x) × (x < at + n)

abbrev Off : (at n x : ℕ) → Type 0
Off at n x = (x < at) ⊎ (at + n ≤ x)

in_either : (at n x : ℕ) → In at n x ⊎ Off at n x
in_either at n x = go (dec_lt x at) (dec_lt x (at + n))
  where
    go : Dec (x < at) → Dec (x < at + n) → In at n x ⊎ Off at n x
    go (yes l) h = inr (inl l)
    go (no l) (yes h) = inl (omega arith, h)
    go (no l) (no h) = inr (inr (omega arith))

-- the same elements from at on
in_same : (at n x : ℕ) (t u : List ℕ) → ((y : ℕ) → y < n → get_or t (at + y) 0 ≡ get_or u (at + y) 0) → In at n x → get_or t x 0 ≡ get_or u x 0
in_same at n x t u f h =
    let q : at + (x - at) ≡ x = omega (arith, h.0) in
    subst (λ (y : ℕ). get_or t y 0 ≡ get_or u y 0) q (f (x - at) (omega (arith, h.0, h.1)))

module _ {s : List ℕ} {old : ℕ} (r : Room s old) (zeros : NoneNamed s old) (more : old_blocks s old < blocks s) where
  -- a block is made, so that something was stored
  made-cleared : {t : List ℕ} → Between s old t → AllMade s old t → Cleared s t
  made-cleared {t} b m = go b.started
    where
      n : New s old (old_blocks s old)
      n = (le_refl (old_blocks s old), more)

      go : (t ≡ s) ⊎ Cleared s t → Cleared s t
      go (inl q) =
          let z : be64 t (slot s (old_blocks s old)) ≡ 0 = ap (λ (u : List ℕ). be64 u (slot s (old_blocks s old))) q ∙ zeros (old_blocks s old) n in
          absurd (omega (arith, (m (old_blocks s old) n).named, place-pos r (old_blocks s old) n))
      go (inr c) = c

  pub made-same : {t u : List ℕ} → Between s old t → Between s old u → AllMade s old t → AllMade s old u → t ≡ u
  made-same {t} {u} b c m n = ext_get_or 0 t u (b.len ∙ sym c.len) (λ x l. at_field x (in_either 88 8 x))
    where
      at_rest : (x : ℕ) → Apart s old x → get_or t x 0 ≡ get_or u x 0
      at_rest x a = b.same x a ∙ sym (c.same x a)

      at_fill : (x : ℕ) → Off 88 8 x → ((i : ℕ) → New s old i → Off (slot s i) 8 x)
          → ((i : ℕ) × New s old i × In (new_place s i) (cluster_size s) x) ⊎ ((i : ℕ) → New s old i → Off (new_place s i) (cluster_size s) x)
          → get_or t x 0 ≡ get_or u x 0
      at_fill x d e (inl k) =
          in_same (new_place s k.0) (cluster_size s) x t u (λ y l. (m k.0 k.1).filled y l ∙ sym ((n k.0 k.1).filled y l)) k.2
      at_fill x d e (inr f) = at_rest x (record { field = d; slots = e; fills = f })

      at_slot : (x : ℕ) → Off 88 8 x → ((i : ℕ) × New s old i × In (slot s i) 8 x) ⊎ ((i : ℕ) → New s old i → Off (slot s i) 8 x)
          → get_or t x 0 ≡ get_or u x 0
      at_slot x d (inl k) =
          let e : be64 t (slot s k.0) ≡ be64 u (slot s k.0) = (m k.0 k.1).named ∙ sym (n k.0 k.1).named in
          in_same (slot s k.0) 8 x t u (be-bytes 8 t u (slot s k.0) b.small c.small (be8 t (slot s k.0) ∙ e ∙ sym (be8 u (slot s k.0)))) k.2
      at_slot x d (inr f) = at_fill x d f (new_either s old (λ i. In (new_place s i) (cluster_size s) x) _ (λ i j. in_either (new_place s i) (cluster_size s) x))

      at_field : (x : ℕ) → In 88 8 x ⊎ Off 88 8 x → get_or t x 0 ≡ get_or u x 0
      at_field x (inl h) = made-cleared b m x h.0 h.1 ∙ sym (made-cleared c n x h.0 h.1)
      at_field x (inr d) = at_slot x d (new_either s old (λ i. In (slot s i) 8 x) _ (λ i j. in_either (slot s i) 8 x))

  -- the bytes that one uncut run gives
  pub uncut : {t : List ℕ} → Bytes s → extend_number s old ≡ 0 → Between s old t → AllMade s old t → t ≡ apply_all (rest old s) s
  unfolding rest after_rough
  uncut small accepted b m =
      let k = between_start small zeros in
      made-same b (turn r k (length (rest old s)) []) m (turn_finished r k accepted (length (rest old s)) [] (le_refl (length (rest old s))))
      ∙ ap (λ us. apply_all us s) (roughly-all (rest old s) (length (rest old s)) [] (le_refl (length (rest old s))))
