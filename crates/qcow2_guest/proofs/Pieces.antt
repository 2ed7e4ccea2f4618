-- The disk's bytes inside one guest cluster.
-- Assumes nothing.
use Rattle.std.specs.Prelude.{if◌then◌else◌, Err, Ok, Result}
use Prim.Native.Nat.{ℕ, zero, suc, ◌+◌, ◌-◌, ◌*◌, ◌/◌, ◌%◌, ◌^◌, ◌≤◌, ◌<◌, min}
use native.Mathlib.Nat.{add-zero, div-add-mod', div-eq_of_lt-le, mod-lt}
use native.Mathlib.Omega.{arith}
use mathlib.Core.Path.{◌≡◌, refl, sym, ap, ap₂, ◌∙◌}
use mathlib.Core.Bool.{Bool, true, false}
use mathlib.Core.List.{List, ◌∷◌}
use borrow.Author.Tests.{leb-false}
use lib.Dec.{eqb, leb}
use lib.ListN.{length, get_or, take, drop, replicate, length-replicate, get_or-replicate, length-drop}
use lib.Seq.{get_or-take, get_or-drop, length-take-le, take_all}
use Rattle.choice.specs.Pick.{each}
use Rattle.choice.proofs.Each.{each_list}
use Rattle.endian.specs.Big.{part, splice}
use Rattle.endian.proofs.Laws.{splice-whole}
use Rattle.qcow2_spec.specs.Header.{cluster_size, disk_size}
use Rattle.qcow2_spec.specs.Entries.{place, zero_mark}
use Rattle.qcow2_spec.specs.Guest.{reach, way, entry_gives, way_gives, located, translated, backing_byte, found_byte, guest_byte, guest_bytes, found_part}
use Rattle.qcow2_spec.specs.Runs.{moved}
use Rattle.qcow2_spec.specs.Opened.{Opened}
use Rattle.qcow2_spec.specs.declared.Geometry.{Geometry}
use Rattle.qcow2_spec.specs.declared.Found.{Found}
use Rattle.qcow2_spec.specs.declared.Found.TheVariants.{Host, Zeros, Absent}
use Rattle.qcow2_spec.specs.declared.Way.{Way}
use Rattle.qcow2_spec.specs.declared.Way.TheVariants.{NoTable, Slot}
use Rattle.qcow2_spec.proofs.Facts.{facts, c_pos}
use Rattle.qcow2_spec.proofs.Refers.{placed2}
use Rattle.qcow2_guest.proofs.Ready.{reached, Lies, way_lies}

-- ---- i bytes on in the same cluster of C bytes
pub same-cluster : (C x i : ℕ) → x % C + i < C → (x + i) / C ≡ x / C
same-cluster C x i h = let a = div-add-mod' x C in div-eq_of_lt-le C (omega arith) (omega arith)

pub same_rest : (C x i : ℕ) → x % C + i < C → (x + i) % C ≡ x % C + i
same_rest C x i h =
    let e : (x + i) / C * C ≡ x / C * C = ap (λ (q : ℕ). q * C) (same-cluster C x i h) in
    omega (arith, div-add-mod' x C, div-add-mod' (x + i) C)

-- ---- what lies i bytes on
each_same : (f g : ℕ → ℕ) (x n : ℕ) → ((i : ℕ) → i < n → f (x + i) ≡ g (x + i)) → each f x n ≡ each g x n
each_same f g x zero h = refl
each_same f g x (suc n) h =
    ap₂ (λ (a : ℕ) (r : List ℕ). a ∷ r) (rw add-zero at (h 0 (omega arith)))
    (each_same f g (suc x) n (λ i k. let e : suc x + i ≡ x + suc i = omega arith in rw e (h (suc i) (omega arith))))

entry-moved : (a b : Bool) (p o i : ℕ) → Ok (if a then Zeros else if b then Absent else Host (p + (o + i))) ≡ moved (Ok (if a then Zeros else if b then Absent else Host (p + o))) i
entry-moved true b p o i = refl
entry-moved false true p o i = refl
entry-moved false false p o i = ap (λ h. Ok (Host h)) (omega arith)

way-moved : (w : Result Way ℕ) (o i : ℕ) → way_gives w (o + i) ≡ moved (way_gives w o) i
unfolding way_gives entry_gives
way-moved (Err k) o i = refl
way-moved (Ok NoTable) o i = refl
way-moved (Ok (Slot a e)) o i = entry-moved (zero_mark e) (eqb (place e) 0) (place e) o i

pub located-moved : (s : List ℕ) (r x i : ℕ) → x % cluster_size s + i < cluster_size s → located s r (x + i) ≡ moved (located s r x) i
unfolding located
located-moved s r x i h =
    rw (same-cluster (cluster_size s) x i h, same_rest (cluster_size s) x i h, way-moved (way s r (x / cluster_size s)) (x % cluster_size s) i)

module _ (backing s : List ℕ) (r x : ℕ) where
  byte-moved : (i : ℕ) → x % cluster_size s + i < cluster_size s → guest_byte backing s r (x + i) ≡ found_byte backing s (x + i) (moved (located s r x) i)
  unfolding guest_byte
  byte-moved i h = ap (found_byte backing s (x + i)) (located-moved s r x i h)

  -- a part l of the output that gets the bytes b
  written : (l b : List ℕ) → length b ≡ length l → ((i : ℕ) → i < length l → guest_byte backing s r (x + i) ≡ get_or b i 0) → splice l 0 b ≡ guest_bytes backing s r x (length l)
  unfolding guest_bytes
  written l b n h = splice-whole l b n ∙ rw (← n) (sym (each_list (guest_byte backing s r) b x (λ i k. h i (omega arith))))

  -- one that gets zeros
  pub blank : (l : List ℕ) → ((i : ℕ) → i < length l → guest_byte backing s r (x + i) ≡ 0) → splice l 0 (replicate (length l) 0) ≡ guest_bytes backing s r x (length l)
  blank l h = written l (replicate (length l) 0) (length-replicate (length l) 0) (λ i k. h i k ∙ sym (get_or-replicate (length l) i 0 0 k))

  -- n bytes that are not allocated
  pub absent : (n : ℕ) → ((i : ℕ) → i < n → located s r (x + i) ≡ Ok Absent) → each (backing_byte backing s) x n ≡ guest_bytes backing s r x n
  unfolding guest_bytes guest_byte found_byte
  absent n h = each_same (backing_byte backing s) (guest_byte backing s r) x n (λ i k. sym (ap (found_byte backing s (x + i)) (h i k)))

host_is : (a b : Bool) (p o h : ℕ) → ◌≡◌ {A = Result Found ℕ} (Ok (if a then Zeros else if b then Absent else Host (p + o))) (Ok (Host h)) → h ≡ p + o
host_is true b p o h e = cc
host_is false true p o h e = cc
host_is false false p o h e = cc

module _ (g : Geometry) (s : List ℕ) (o : Opened g s) (x : ℕ) where
  -- a host offset lies in the image, with the rest of its cluster
  pub host_in : (h : ℕ) → x < reach s g.root → located s g.root x ≡ Ok (Host h) → h + (2 ^ g.bits - x % 2 ^ g.bits) ≤ length s
  unfolding located way_gives entry_gives
  host_in h l e = rw o.is-cluster (go (way s g.root (x / cluster_size s)) (way_lies g s o _ (reached g s o x l)) e)
    where
      go : (w : Result Way ℕ) → Lies g s w (x / cluster_size s) → way_gives w (x % cluster_size s) ≡ Ok (Host h) → h + (cluster_size s - x % cluster_size s) ≤ length s
      go (Err k) r e = cc
      go (Ok NoTable) r e = cc
      go (Ok (Slot a y)) r e =
          let f = facts s o.accepted in
          omega (arith, (placed2 s f y r.good).inside, host_is (zero_mark y) (eqb (place y) 0) (place y) (x % cluster_size s) h e, mod-lt x (c_pos s f))

  -- a translation that gives a host offset
  module _ (z : g.root ≡ 0) where
    pub host_found : (h : ℕ) → translated s x ≡ Ok (Host h) → (x < g.size) × (h + (2 ^ g.bits - x % 2 ^ g.bits) ≤ length s)
    unfolding translated reach
    host_found h e = go (leb (disk_size s) x) refl e
      where
        go : (b : Bool) → leb (disk_size s) x ≡ b → (if b then Err 11 else located s 0 x) ≡ Ok (Host h) → (x < g.size) × (h + (2 ^ g.bits - x % 2 ^ g.bits) ≤ length s)
        go true t e = cc
        go false t e =
            let l : x < reach s g.root = rw z (leb-false _ _ t) in
            (rw o.is-size l, host_in h l (rw z e))

    pub host_part : (h m : ℕ) → translated s x ≡ Ok (Host h) → m ≡ min (2 ^ g.bits - x % 2 ^ g.bits) (g.size - x) → part s h m ≡ found_part s x (translated s x)
    unfolding found_part reach
    host_part h m e q = rw (e, q, o.is-cluster, o.is-size, z)

  -- a part l of the output that gets the bytes from x on, which lie in one cluster
  module _ (backing l : List ℕ) (r : x % 2 ^ g.bits + length l ≤ 2 ^ g.bits) where
    within : (i : ℕ) → i < length l → x % cluster_size s + i < cluster_size s
    within i k = let q : x % cluster_size s + length l ≤ cluster_size s = rw o.is-cluster at r in omega arith

    pub copied : (h : ℕ) → x < reach s g.root → located s g.root x ≡ Ok (Host h) → splice l 0 (take (length l) (part s h (length l))) ≡ guest_bytes backing s g.root x (length l)
    unfolding found_byte
    copied h k e =
        let m : ℕ = length l in
        let i : h + m ≤ length s = omega (arith, host_in h k e) in
        let n : length (part s h m) ≡ m = length-take-le m (drop h s) (simp length-drop (omega arith)) in
        rw (take_all m (part s h m) (omega arith))
        (written backing s g.root x l (part s h m) n
        (λ i k. byte-moved backing s g.root x i (within i k) ∙ rw e (sym (get_or-take m (drop h s) i 0 k ∙ get_or-drop h s i 0))))

    pub cleared : ((i : ℕ) → found_byte backing s (x + i) (moved (located s g.root x) i) ≡ 0) → splice l 0 (replicate (length l) 0) ≡ guest_bytes backing s g.root x (length l)
    cleared z = blank backing s g.root x l (λ i k. byte-moved backing s g.root x i (within i k) ∙ z i)

    pub uncovered : located s g.root x ≡ Ok Absent → each (backing_byte backing s) x (length l) ≡ guest_bytes backing s g.root x (length l)
    uncovered e = absent backing s g.root x (length l) (λ i k. located-moved s g.root x i (within i k) ∙ ap (λ (f : Result Found ℕ). moved f i) e)
