-- Laws of what the header gives.
-- Assumes nothing.
use Rattle.std.specs.Prelude.{Err, Result}
use Prim.Native.Nat.{ℕ, zero, suc, ◌-◌, ◌*◌, ◌/◌, ◌%◌, ◌^◌, ◌≤◌, ◌<◌}
use native.Mathlib.Nat.{mod-eq_of_lt, mul_left_comm, mul-le-mul_left, div-add-mod'}
use native.Mathlib.Omega.{arith}
use mathlib.Core.Path.{◌≡◌, refl}
use mathlib.Core.Bool.{Bool, true, false, not, ◌||◌}
use mathlib.Core.List.{List}
use borrow.Author.Tests.{ltb-true, ltb-false, eqb-true, not-false}
use lib.Dec.{eqb, ltb}
use lib.ListN.{length, take, drop}
use Rattle.choice.specs.Pick.{unless}
use Rattle.choice.proofs.Tests.{or-false}
use Rattle.endian.specs.Big.{entries}
use Rattle.endian.proofs.Entries.{part-rest}
use Rattle.qcow2_spec.specs.Header.{sector, cluster_size, per_table, root_size, root_at, l1_at, table_at, table, too_big, odd_size, bad_tables, good_table, snapshots, snapshots_at}
use Rattle.qcow2_spec.specs.Guest.{reach}
use Rattle.qcow2_spec.specs.Opened.{geometry}
use Rattle.qcow2_spec.specs.declared.Geometry.{Geometry}
use Rattle.qcow2_limits.specs.Limits.{oversize}
use Rattle.qcow2_fields.specs.Fields.{Read}
use Rattle.qcow2_tables.specs.Placing.{misplaced, misplaced_tables}
use Rattle.qcow2_header.specs.Chain.{bad_entries, Placed}

-- an image of whole clusters has one
pub whole_room : (n C : ℕ) → 0 < n → n % C ≡ 0 → C ≤ n
whole_room n C h e = go (ltb n C) refl
  where
    go : (b : Bool) → ltb n C ≡ b → C ≤ n
    go true t = absurd (omega (arith, mod-eq_of_lt {n = n} {m = C} (ltb-true _ _ t)))
    go false t = ltb-false _ _ t

-- the entries of a table of x clusters take no more than those clusters
pub entries_fit : (x C : ℕ) → 8 * (x * (C / 8)) ≤ x * C
entries_fit x C = rw (mul_left_comm 8 x (C / 8)) (mul-le-mul_left x (omega arith))

-- ---- the tests 8 to 10 and 21, of what the header gives
pub oversize-is : (g : Geometry) (s : List ℕ) → g ≡ geometry s 0 → oversize g ≡ too_big s
unfolding oversize too_big geometry reach root_size per_table cluster_size
oversize-is g s e = rw e

pub sectors-is : (g : Geometry) (s : List ℕ) → g ≡ geometry s 0 → not (eqb (g.size % sector) 0) ≡ odd_size s
unfolding odd_size geometry reach
sectors-is g s e = rw e

regroup : (a b c d e : Bool) → ((a || c) || ((b || d) || e)) ≡ (a || b || c || d || e)
regroup true b c d e = refl
regroup false true true d e = refl
regroup false true false d e = refl
regroup false false true d e = refl
regroup false false false d e = refl

pub tables-is : (g : Geometry) (s : List ℕ) → g ≡ geometry s 0 → misplaced_tables g (length s) ≡ bad_tables s
unfolding misplaced_tables misplaced bad_tables geometry root_size root_at per_table cluster_size
tables-is g s e = rw e (regroup (not (eqb (l1_at s % cluster_size s) 0)) (not (eqb (table_at s % cluster_size s) 0)) _ _ _)

-- the code's C is p, and its table starts at a
pub entries-is : (g : Geometry) (s : List ℕ) (p a : ℕ) → g ≡ geometry s 0 → p ≡ 2 ^ g.bits → a ≡ g.tableat
    → not (good_table (2 ^ g.bits) (length s) g.blocks (entries (g.tableclusters * (p / 8)) (take (length s - a) (drop a s)))) ≡ bad_entries s
unfolding bad_entries geometry table per_table cluster_size
entries-is g s p a e q f = rw (part-rest, q, f, e)

pub snapshots-told : (g : Geometry) (s : List ℕ) → g ≡ geometry s 0
    → (cluster_size s ≡ 2 ^ g.bits) × ((g.snapshots ≡ snapshots s) × (g.snapshotsat ≡ snapshots_at s))
unfolding geometry cluster_size
snapshots-told g s e = rw e (refl, (refl, refl))

-- a number that is given
pub refused_by : (k : ℕ) (a : Result Geometry ℕ) → (k ≡ 0 → ⊥) → Err k ≡ unless k Err a
refused_by zero a h = absurd (h refl)
refused_by (suc k) a h = refl

-- tables that are well placed
pub placed : (g : Geometry) (s : List ℕ) → Read g s → misplaced_tables g (length s) ≡ false → Placed g s
unfolding misplaced_tables misplaced
placed g s r h =
    let M : Bool = misplaced (2 ^ g.bits) (length s) g.tableat (g.tableclusters * 2 ^ g.bits) in
    let a = or-false (misplaced (2 ^ g.bits) (length s) g.l1at (8 * g.l1size)) _ h in
    let b = or-false M _ a.1 in
    let t = or-false (not (eqb (g.tableat % 2 ^ g.bits) 0)) _ b.0 in
    record { read = r; whole = eqb-true _ _ (not-false _ t.0); fits = ltb-false _ _ t.1; enough = ltb-false _ _ b.1 }

-- the refcount table's place as a multiple of the cluster size
pub place_is : (g : Geometry) (s : List ℕ) (q p : ℕ) → Placed g s → q ≡ g.tableat / 2 ^ g.bits → p ≡ 2 ^ g.bits → q * p ≡ g.tableat
place_is g s q p h eq ep = rw (eq, ep) (omega (arith, div-add-mod' g.tableat (2 ^ g.bits), h.whole))
