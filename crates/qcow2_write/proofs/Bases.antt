-- What the bytes that are lent have for a guest cluster. Assumes nothing.
use Rattle.std.specs.Prelude.{if◌then◌else◌}
use Prim.Native.Nat.{ℕ, zero, suc, ◌+◌, ◌-◌, ◌*◌, ◌^◌, ◌≤◌, min}
use native.Mathlib.Nat.{sub-zero}
use native.Mathlib.Omega.{arith}
use mathlib.Core.Path.{◌≡◌, refl, sym, ap, ap₂, ◌∙◌}
use mathlib.Core.Bool.{Bool, true, false}
use mathlib.Core.List.{List, [], ◌∷◌}
use lib.Dec.{ltb}
use lib.ListN.{length, drop, replicate, length-take, length-drop}
use Rattle.choice.specs.Pick.{each}
use Rattle.endian.specs.Big.{part, splice}
use Rattle.units.specs.Units.{cluster}
use Rattle.fills.specs.Padded.{padded}
use Rattle.fills.proofs.Fills.{take_min, over_zeros}
use Rattle.qcow2_spec.specs.Header.{cluster_size, disk_size, backed}
use Rattle.qcow2_spec.specs.Guest.{reach, backing_byte}
use Rattle.qcow2_spec.specs.Store.{backing_cluster}
use Rattle.qcow2_spec.specs.Opened.{Active}
use Rattle.qcow2_spec.specs.declared.Geometry.{Geometry}
use Rattle.qcow2_spec.proofs.Backing.{backing_cluster_lem}
use Rattle.qcow2_write.specs.Base.{Base}

-- ---- no backing file: zeros
each-zero : (f : ℕ → ℕ) (x n : ℕ) → ((y : ℕ) → f y ≡ 0) → each f x n ≡ replicate n 0
each-zero f x zero z = refl
each-zero f x (suc n) z = ap₂ (λ (a : ℕ) (r : List ℕ). a ∷ r) (z x) (each-zero f (suc x) n z)

module _ (backing s : List ℕ) (b : backed s ≡ false) where
  zero-byte : (y : ℕ) → (if ltb y (disk_size s) then backing_byte backing s y else 0) ≡ 0
  unfolding backing_byte
  zero-byte y = rw b (go (ltb y (disk_size s)))
    where
      go : (t : Bool) → ◌≡◌ {A = ℕ} (if t then 0 else 0) 0
      go true = refl
      go false = refl

  zero-cluster : (x : ℕ) → backing_cluster backing s x ≡ padded (cluster_size s) []
  unfolding backing_cluster padded
  zero-cluster x = rw sub-zero (each-zero _ (x * cluster_size s) (cluster_size s) zero-byte)

pub base_none : (g : Geometry) (backing : List ℕ) (x : ℕ) → g.backed ≡ false → Base g backing x []
base_none g backing x b =
    record {
      few = omega arith;
      same = λ s a. rw a.0.is-cluster (zero-cluster backing s (sym a.0.is-backed ∙ b) x);
    }

-- ---- a part that starts or ends past the end
drop_min : (n : ℕ) (l : List ℕ) → drop (min n (length l)) l ≡ drop n l
drop_min zero l = let e : min 0 (length l) ≡ 0 = omega arith in rw e
drop_min (suc n) [] = let e : min (suc n) 0 ≡ 0 = omega arith in rw e
drop_min (suc n) (x ∷ l) = let e : min (suc n) (suc (length l)) ≡ suc (min n (length l)) = omega arith in rw e (drop_min n l)

part_cut : (l : List ℕ) (x m at k : ℕ) → at ≡ min x (length l) → k ≡ min m (length l - at) → part l at k ≡ part l x m
part_cut l x m at k e f =
    let d : drop at l ≡ drop x l = rw e (drop_min x l) in
    let n : length l - at ≡ length (drop x l) = sym (length-drop at l) ∙ ap length d in
    rw (f, n, d) (take_min m (drop x l))

-- ---- over one, a part of what is lent
module _ (g : Geometry) (backing : List ℕ) (x : ℕ) (b : g.backed ≡ true) where
  pub base_part : (m at k : ℕ) → m ≡ min (2 ^ g.bits) (g.size - x * 2 ^ g.bits) → at ≡ min (x * 2 ^ g.bits) (length backing) → k ≡ min m (length backing - at)
      → Base g backing x (part backing at k)
  unfolding reach padded
  base_part m at k em ea ek =
      rw (part_cut backing (x * 2 ^ g.bits) m at k ea ek) (record { few = rw length-take (omega arith); same = λ s a. same-part s a })
    where
      same-part : (s : List ℕ) → Active g s → backing_cluster backing s x ≡ padded (2 ^ g.bits) (part backing (x * 2 ^ g.bits) m)
      same-part s a =
          let d : g.size ≡ disk_size s = a.0.is-size ∙ ap (reach s) a.1 in
          let c : 2 ^ g.bits ≡ cluster_size s = a.0.is-cluster in
          rw c (backing_cluster_lem backing s (sym a.0.is-backed ∙ b) x m (rw (← d, ← c) (sym em)))

-- ---- a new cluster, with what lies underneath or under a zero mark
pub over-marked : (m : Bool) (c o : ℕ) (base under d : List ℕ) → under ≡ (if m then [] else base) → o + length d ≤ c
    → splice (padded c under) o d ≡ (if m then cluster c o d else splice (padded c base) o d)
over-marked true c o base under d e h = rw e (over_zeros c o d h)
over-marked false c o base under d e h = rw e

pub few-marked : (m : Bool) (c : ℕ) (base under : List ℕ) → under ≡ (if m then [] else base) → length base ≤ c → length under ≤ c
few-marked true c base under e h = rw e (omega arith)
few-marked false c base under e h = rw e h
