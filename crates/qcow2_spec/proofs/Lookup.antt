-- A lookup gives the bytes that a read gives. Assumes nothing.
use Rattle.std.specs.Prelude.{if◌then◌else◌, Err, Ok, Result}
use Prim.Native.Nat.{ℕ, zero, suc, ◌+◌, ◌-◌, ◌*◌, ◌/◌, ◌%◌, ◌≤◌, ◌<◌, min}
use native.Mathlib.Nat.{div-add-mod', div-eq_of_lt-le, suc-ne-zero}
use native.Mathlib.Omega.{arith}
use mathlib.Core.Path.{◌≡◌, refl, sym, ap, ◌∙◌}
use mathlib.Core.Bool.{Bool, true, false}
use mathlib.Core.List.{List}
use lib.Dec.{ltb, eqb}
use lib.ListN.{length, get_or, drop, length-take}
use lib.Seq.{get_or-take, get_or-drop}
use borrow.Author.Tests.{ltb-true, ltb-false}
use Rattle.choice.specs.Pick.{each}
use Rattle.choice.proofs.Each.{each_list}
use Rattle.endian.specs.Big.{part}
use Rattle.qcow2_spec.specs.Header.{cluster_size, disk_size, some_lent, judge_lent, judge}
use Rattle.qcow2_spec.specs.Entries.{place, zero_mark}
use Rattle.qcow2_spec.specs.Guest.{way, entry_gives, way_gives, located, translate, found_byte, found_part, in_place}
use Rattle.qcow2_spec.specs.Runs.{moved, found_kind}
use Rattle.qcow2_spec.specs.Bytewise.{Lookups}
use Rattle.qcow2_spec.specs.declared.Found.{Found}
use Rattle.qcow2_spec.specs.declared.Found.TheVariants.{Host, Zeros, Absent}
use Rattle.qcow2_spec.specs.declared.Way.{Way}
use Rattle.qcow2_spec.specs.declared.Way.TheVariants.{NoTable, Slot}
use Rattle.qcow2_spec.proofs.Facts.{facts, accepted_lent, c_pos}
use Rattle.qcow2_spec.proofs.Bytewise.{translate-inside, translate-refused, translate-past}

-- ---- the bytes of one guest cluster
module _ (C : ℕ) (pos : 0 < C) (x i : ℕ) (near : x % C + i < C) where
  same-cluster : (x + i) / C ≡ x / C
  same-cluster = div-eq_of_lt-le C (omega (arith, div-add-mod' x C)) (omega (arith, div-add-mod' x C, near))

  next-byte : (x + i) % C ≡ x % C + i
  next-byte =
      let e : (x + i) / C * C ≡ x / C * C = ap (λ (q : ℕ). q * C) same-cluster in
      omega (arith, div-add-mod' x C, div-add-mod' (x + i) C, e)

gives_moved : (w : Result Way ℕ) (o i : ℕ) → way_gives w (o + i) ≡ moved (way_gives w o) i
unfolding way_gives entry_gives
gives_moved (Err k) o i = refl
gives_moved (Ok NoTable) o i = refl
gives_moved (Ok (Slot a e)) o i = go (zero_mark e) (eqb (place e) 0)
  where
    go : (m z : Bool) → Ok (if m then Zeros else if z then Absent else Host (place e + (o + i))) ≡ moved (Ok (if m then Zeros else if z then Absent else Host (place e + o))) i
    go true z = refl
    go false true = refl
    go false false = ap (λ h. Ok (Host h)) (omega arith)

-- the bytes of a guest cluster lie side by side
pub located-moved : (s : List ℕ) → judge_lent true s ≡ 0 → (t x i : ℕ) → x % cluster_size s + i < cluster_size s → located s t (x + i) ≡ moved (located s t x) i
unfolding located
located-moved s ok t x i near =
    let pos = c_pos s (facts s ok) in
    rw (same-cluster (cluster_size s) pos x i near, next-byte (cluster_size s) pos x i near) (gives_moved (way s t (x / cluster_size s)) (x % cluster_size s) i)

module _ (backing s : List ℕ) where
  -- ---- a translation that gives a host offset
  hosted : (x h : ℕ) → translate backing s x ≡ Ok (Host h) → (judge backing s ≡ 0) × (x < disk_size s)
  hosted x h e = go (judge backing s) refl
    where
      not-refused : (k : ℕ) → translate backing s x ≡ Err k → ⊥
      not-refused k r = suc-ne-zero 2 (sym (ap found_kind (sym e ∙ r)))

      go : (j : ℕ) → judge backing s ≡ j → (judge backing s ≡ 0) × (x < disk_size s)
      go (suc j) q = absurd (not-refused (suc j) (translate-refused backing s x j q))
      go zero q = (q, below (ltb x (disk_size s)) refl)
        where
          below : (b : Bool) → ltb x (disk_size s) ≡ b → x < disk_size s
          below true l = ltb-true _ _ l
          below false l = absurd (not-refused 11 (translate-past backing s x q (ltb-false _ _ l)))

  lent : judge backing s ≡ 0 → judge_lent true s ≡ 0
  unfolding judge
  lent e = accepted_lent (some_lent backing) s e

  -- byte x + i lies i bytes on, where the guest cluster and the disk go on that far
  found : (x h i m : ℕ) → translate backing s x ≡ Ok (Host h) → i < m → m ≤ cluster_size s - x % cluster_size s → m ≤ disk_size s - x
      → found_byte backing s (x + i) (translate backing s (x + i)) ≡ get_or (part s h m) i 0
  unfolding found_byte
  found x h i m e l a b =
      let q = hosted x h e in
      let here : located s 0 x ≡ Ok (Host h) = sym (translate-inside backing s x q.0 q.1) ∙ e in
      let there : translate backing s (x + i) ≡ Ok (Host (h + i)) =
      translate-inside backing s (x + i) q.0 (omega (arith, l, b)) ∙ located-moved s (lent q.0) 0 x i (omega (arith, l, a))
      ∙ ap (λ (f : Result Found ℕ). moved f i) here in
      ap (found_byte backing s (x + i)) there ∙ sym (get_or-take m (drop h s) i 0 l ∙ get_or-drop h s i 0)

-- ---- the law
pub lookup_bytewise : Lookups
unfolding in_place found_part
lookup_bytewise backing s x = go (translate backing s x) refl
  where
    seen : ℕ → ℕ
    seen y = found_byte backing s y (translate backing s y)

    go : (f : Result Found ℕ) → translate backing s x ≡ f → found_part s x f ≡ each seen x (length (found_part s x f))
    go (Ok (Host h)) e = sym (each_list seen (part s h m) x same)
      where
        m : ℕ
        m = min (cluster_size s - x % cluster_size s) (disk_size s - x)

        same : (i : ℕ) → i < length (part s h m) → seen (x + i) ≡ get_or (part s h m) i 0
        same i l =
            let k : length (part s h m) ≡ min m (length (drop h s)) = length-take m (drop h s) in
            found backing s x h i m e (omega (arith, l, k)) (omega arith) (omega arith)
    go (Ok Zeros) e = refl
    go (Ok Absent) e = refl
    go (Err k) e = refl
