-- With no backing file, that is with a backing offset of 0, the bytes that are lent change nothing, and the lists of units are 01's. Assumes nothing.
use Rattle.std.specs.Prelude.{Err, Ok, Result}
use Prim.Native.Nat.{ℕ, zero, suc, ◌+◌, ◌-◌, ◌*◌, ◌≤◌}
use native.Mathlib.Omega.{arith}
use mathlib.Core.Path.{◌≡◌, refl, sym, ap, ap₂, ◌∙◌, subst, fun_ext}
use mathlib.Core.Bool.{Bool, false}
use mathlib.Core.List.{List, [], ◌∷◌, ◌++◌, append_assoc}
use lib.Dec.{ltb}
use lib.ListN.{length, take, drop, replicate}
use Rattle.choice.specs.Pick.{each}
use Rattle.choice.proofs.Tests.{if_elim}
use Rattle.endian.specs.Big.{splice}
use Rattle.units.specs.Units.{cluster}
use Rattle.qcow2_spec.specs.Header.{cluster_size, clusters, disk_size, backing_offset, backed, backing_number, judge_lent, judge}
use Rattle.qcow2_spec.specs.Guest.{translate, backing_byte, found_byte, located, guest_byte, guest_bytes, range_into, read_number, read_into, in_place}
use Rattle.qcow2_spec.specs.declared.Found.{Found}
use Rattle.qcow2_spec.specs.declared.Found.TheVariants.{Host, Zeros, Absent}
use Rattle.qcow2_spec.specs.declared.Way.{Way}
use Rattle.qcow2_spec.specs.declared.Way.TheVariants.{NoTable, Slot}
use Rattle.qcow2_spec.specs.Store.{judged, backing_cluster, new_bytes, write_slot, write_way, write_list, write_plan, cleared_entry, discard_plan}
use Rattle.qcow2_spec.specs.References.{scratch_left}
use Rattle.qcow2_spec.specs.Check.{check, repair_plan}
use Rattle.qcow2_spec.specs.Runs.{list_runs, runs_into}
use Rattle.qcow2_spec.specs.Opened.{opened}
use Rattle.qcow2_spec.specs.Disk.{Request, write, discard, repair, plan_of}
use Rattle.qcow2_spec.specs.Series.{Bytes, Healthy, Call, AllBytes, Agrees, LooseHolds}
use Rattle.qcow2_spec.proofs.Series.{loose3}

each-zeros : (f : ℕ → ℕ) → ((y : ℕ) → f y ≡ 0) → (a k : ℕ) → each f a k ≡ replicate k 0
each-zeros f h a zero = refl
each-zeros f h a (suc k) = ap₂ (λ (x : ℕ) (l : List ℕ). x ∷ l) (h a) (each-zeros f h (suc a) k)

take-zeros : (o n : ℕ) → o ≤ n → take {A = ℕ} o (replicate n 0) ≡ replicate o 0
take-zeros zero n h = refl
take-zeros (suc o) zero h = absurd (omega arith)
take-zeros (suc o) (suc n) h = ap (λ (l : List ℕ). 0 ∷ l) (take-zeros o n (omega arith))

drop-zeros : (o n : ℕ) → o ≤ n → drop {A = ℕ} o (replicate n 0) ≡ replicate (n - o) 0
drop-zeros zero n h = let e : n - 0 ≡ n = omega arith in ap (λ (k : ℕ). replicate k 0) (sym e)
drop-zeros (suc o) zero h = absurd (omega arith)
drop-zeros (suc o) (suc n) h = let e : suc n - suc o ≡ n - o = omega arith in drop-zeros o n (omega arith) ∙ ap (λ (k : ℕ). replicate k 0) (sym e)

-- data over zeros are zeros around the data
pub splice-zeros : (C o : ℕ) (d : List ℕ) → o + length d ≤ C → splice (replicate C 0) o d ≡ cluster C o d
unfolding splice cluster
splice-zeros C o d h =
    let e : C - (o + length d) ≡ C - o - length d = omega arith in
    ap₂ (λ (a b : List ℕ). a ++ (d ++ b)) (take-zeros o C (omega arith)) (drop-zeros (o + length d) C h ∙ ap (λ (k : ℕ). replicate k 0) e)
    ∙ sym (append_assoc (replicate o 0) d (replicate (C - o - length d) 0))

module _ (s : List ℕ) (none : backing_offset s ≡ 0) where
  pub backed-alone : backed s ≡ false
  unfolding backed
  backed-alone = rw none refl

  -- what a discard leaves is an entry of 0
  pub cleared-alone : cleared_entry s ≡ 0
  unfolding cleared_entry
  cleared-alone = rw backed-alone refl

  pub byte-alone : (backing : List ℕ) (x : ℕ) → backing_byte backing s x ≡ 0
  unfolding backing_byte
  byte-alone backing x = rw backed-alone refl

  pub cluster-alone : (backing : List ℕ) (g : ℕ) → backing_cluster backing s g ≡ replicate (cluster_size s) 0
  unfolding backing_cluster
  cluster-alone backing g =
      each-zeros _ (λ y. if_elim (λ (v : ℕ). v ≡ 0) (ltb y (disk_size s)) _ _ (λ e. byte-alone backing y) (λ e. refl)) (g * cluster_size s) (cluster_size s)

  module _ (backing : List ℕ) where
    -- a new cluster is zeros around the data
    pub new_alone : (g o : ℕ) (d : List ℕ) → o + length d ≤ cluster_size s → splice (backing_cluster backing s g) o d ≡ cluster (cluster_size s) o d
    new_alone g o d h = ap (λ (l : List ℕ). splice l o d) (cluster-alone backing g) ∙ splice-zeros (cluster_size s) o d h

    pub lent_alone : (a b : Bool) → judge_lent a s ≡ judge_lent b s
    unfolding judge_lent backing_number
    lent_alone a b = rw backed-alone refl

    pub judge-alone : judge backing s ≡ judge [] s
    unfolding judge
    judge-alone = lent_alone _ _

    pub guest_alone : (t x : ℕ) → guest_byte backing s t x ≡ guest_byte [] s t x
    unfolding guest_byte found_byte backing_byte
    guest_alone t x = go (located s t x)
      where
        go : (w : Result Found ℕ) → found_byte backing s x w ≡ found_byte [] s x w
        go (Ok (Host h)) = refl
        go (Ok Zeros) = refl
        go (Ok Absent) = rw backed-alone refl
        go (Err k) = refl

    pub number-alone : (t x len : ℕ) → read_number backing s t x len ≡ read_number [] s t x len
    unfolding read_number
    number-alone t x len = rw judge-alone refl

    pub read-alone : (t x : ℕ) (out : List ℕ) → read_into backing s t x out ≡ read_into [] s t x out
    unfolding read_into range_into guest_bytes
    read-alone t x out = let e : guest_byte backing s t ≡ guest_byte [] s t = fun_ext (guest_alone t) in rw (judge-alone, e) refl

    pub translate-alone : (x : ℕ) → translate backing s x ≡ translate [] s x
    unfolding translate
    translate-alone x = rw judge-alone refl

    pub place-alone : (x : ℕ) → in_place backing s x ≡ in_place [] s x
    unfolding in_place
    place-alone x = rw (translate-alone x) refl

    pub check-alone : (n : ℕ) → check backing s n ≡ check [] s n
    unfolding check
    check-alone n = rw judge-alone refl

    pub scratch-alone : (scratch : List ℕ) → scratch_left backing s scratch ≡ scratch_left [] s scratch
    unfolding scratch_left
    scratch-alone scratch = rw judge-alone refl

    pub opened-alone : (a b : Bool) → opened a s ≡ opened b s
    unfolding opened
    opened-alone a b = rw (lent_alone a b) refl

    pub runs-alone : (t x len k : ℕ) → list_runs backing s t x len k ≡ list_runs [] s t x len k
    unfolding list_runs
    runs-alone t x len k = rw judge-alone refl

    pub rows-alone : (t x len : ℕ) (out : List ℕ) → runs_into backing s t x len out ≡ runs_into [] s t x len out
    unfolding runs_into
    rows-alone t x len out = rw judge-alone refl

    same-cluster : (g : ℕ) → backing_cluster backing s g ≡ backing_cluster [] s g
    same-cluster g = cluster-alone backing g ∙ sym (cluster-alone [] g)

    way-alone : (w : Result Way ℕ) (g o : ℕ) (d : List ℕ) → write_way backing s w g o d ≡ write_way [] s w g o d
    unfolding write_way write_slot new_bytes
    way-alone (Err k) g o d = refl
    way-alone (Ok NoTable) g o d = rw (same-cluster g) refl
    way-alone (Ok (Slot a e)) g o d = rw (same-cluster g) refl

    -- the call's list
    pub plan_alone : (r : Request) → plan_of backing s r ≡ plan_of [] s r
    unfolding plan_of write_plan write_list discard_plan repair_plan judged
    plan_alone (write x d) = rw (judge-alone, way-alone) refl
    plan_alone (discard g) = rw judge-alone refl
    plan_alone (repair n) = rw judge-alone refl

-- a series on an image with no backing file, whatever is lent: the plain disk is the one that is read with nothing lent
pub loose_alone : (backing s : List ℕ) → backing_offset s ≡ 0 → Bytes backing → Bytes s → Healthy (check [] s (2 * clusters s)) → (calls : List Call) → AllBytes calls
    → Agrees backing s s (guest_byte [] s 0) × LooseHolds backing s s (guest_byte [] s 0) calls
loose_alone backing s none bb by h calls sm =
    let e : guest_byte backing s 0 ≡ guest_byte [] s 0 = fun_ext (guest_alone s none backing 0) in
    rw e at (loose3 backing s bb by (subst Healthy (sym (check-alone s none backing (2 * clusters s))) h) calls sm)
