-- The plain disk of a batch of which each guest cluster shows its own number of calls: each call is old or new as a whole. Assumes nothing.
use Rattle.std.specs.Prelude.{Result}
use Prim.Native.Nat.{ℕ, zero, suc, ◌-◌, ◌/◌, ◌%◌, ◌≤◌, ◌<◌}
use native.Mathlib.Nat.{suc-ne-zero}
use native.Mathlib.Decide.{ℕ_discrete}
use native.Mathlib.Omega.{arith}
use mathlib.Core.Path.{◌≡◌, refl, sym, ap, ◌∙◌, subst}
use mathlib.Core.Logic.{◌⊎◌, inl, inr, ◌≢◌}
use mathlib.Core.Bool.{Bool, ◌||◌}
use mathlib.Core.List.{List, [], ◌∷◌}
use lib.Dec.{ltb, eqb}
use lib.ListN.{length, take}
use borrow.Author.Tests.{ltb-false, ne_eqb}
use Rattle.choice.specs.Pick.{unless}
use Rattle.choice.proofs.Tests.{if_no, if_elim, or-false}
use Rattle.units.specs.Units.{apply_all}
use Rattle.units.specs.Plan.{Plan, refused, units, plan_units, stores_count}
use Rattle.units.specs.declared.Ended.{Ended}
use Rattle.qcow2_spec.specs.Header.{cluster_size, disk_size, judge}
use Rattle.qcow2_spec.specs.Guest.{outside}
use Rattle.qcow2_spec.specs.Store.{clearing, judged, write_list, write_plan}
use Rattle.qcow2_spec.specs.Disk.{Request, write, discard, repair, plan_of, finished, SameDisk, Fed}
use Rattle.qcow2_spec.proofs.Seen.{written_out, within-cluster, strong, fed-same}
use Rattle.qcow2_spec.proofs.Series.{finished-at, finished-same}
use Rattle.qcow2_batches.specs.Batch.{ran, memory}
use Rattle.qcow2_batches.specs.Series.{cut_short, wholly, FedAll}

-- ---- a call that is not refused changes one guest cluster
-- finishing the request changes no byte outside guest cluster c
abbrev Within : (C : ℕ) → Request → (c : ℕ) → Type 0
Within C r c = (disk : ℕ → ℕ) (y : ℕ) → y / C ≢ c → finished C r disk y ≡ disk y

unfoldable Narrow : (C : ℕ) → Request → Plan → Type 0
Narrow C r (refused k) = Unit {0}
Narrow C r (units us) = (c : ℕ) × Within C r c

narrow-refused : (C : ℕ) (r : Request) (k : ℕ) → Narrow C r (refused k)
unfolding Narrow
narrow-refused C r k = tt

narrow_by : (C : ℕ) (r : Request) (c : ℕ) → Within C r c → (p : Plan) → Narrow C r p
unfolding Narrow
narrow_by C r c h (refused k) = tt
narrow_by C r c h (units us) = (c, h)

narrow-judged : (C : ℕ) (r : Request) (backing s : List ℕ) (p : Plan) → Narrow C r p → Narrow C r (judged backing s p)
unfolding Narrow judged clearing
narrow-judged C r backing s p h = go (judge backing s) p h
  where
    go : (j : ℕ) (p : Plan) → Narrow C r p → Narrow C r (unless j refused (clearing s p))
    go (suc j) p h = tt
    go zero (refused k) h = tt
    go zero (units []) h = h
    go zero (units (u ∷ us)) h = h

within-write : (C x : ℕ) (d : List ℕ) → length d ≤ C - x % C → Within C (write x d) (x / C)
within-write C x d fits disk y n = written_out C x d disk y (λ p. n (within-cluster C x y (length d) (omega arith) (omega arith) p.0 p.1).0)

within-discard : (C g : ℕ) → Within C (discard g) g
unfolding finished
within-discard C g disk y n = if_no (eqb (y / C) g) 0 (disk y) (ne_eqb (y / C) g n)

narrow : (backing s : List ℕ) (r : Request) → Narrow (cluster_size s) r (plan_of backing s r)
unfolding plan_of write_plan write_list finished
narrow backing s (write x d) =
    narrow-judged (cluster_size s) (write x d) backing s (write_list backing s x d)
    (if_elim (Narrow (cluster_size s) (write x d)) (outside s 0 x (length d) || ltb (cluster_size s - x % cluster_size s) (length d)) _ _ (λ b. narrow-refused (cluster_size s) (write x d) 11)
    (λ b. narrow_by (cluster_size s) (write x d) (x / cluster_size s)
    (within-write (cluster_size s) x d (ltb-false (cluster_size s - x % cluster_size s) (length d) (or-false (outside s 0 x (length d)) _ b).1)) _))
narrow backing s (discard g) = narrow_by (cluster_size s) (discard g) g (within-discard (cluster_size s) g) _
narrow backing s (repair n) = narrow_by (cluster_size s) (repair n) 0 (λ disk y h. refl) _

module _ (backing start : List ℕ) where
  abbrev size : ℕ
  size = disk_size start

  abbrev C : ℕ
  C = cluster_size start

  -- ---- the plain disks may be read off by either side
  pub fed-all-same : (how : Plan → Result Ended ℕ) (s : List ℕ) (rs : List Request) (old old' now now' : ℕ → ℕ) → SameDisk size old old' → SameDisk size now now'
      → FedAll how backing start s old rs now → FedAll how backing start s old' rs now'
  unfolding FedAll SameDisk
  fed-all-same how s [] old old' now now' ho hw h = λ y l. sym (hw y l) ∙ h y l ∙ ho y l
  fed-all-same how s (r ∷ rs) old old' now now' ho hw h = (
    h.0,
    fed-same size old old' (finished C r old) (finished C r old') h.0 h.0 ho (finished-same C size r old old' ho) (λ y l. refl) _ _ h.1,
    fed-all-same how (ran backing s r) rs h.0 h.0 now now' (λ y l. refl) hw h.2,
  )

  -- the images on which the calls are planned have one cluster size
  unfoldable pub Sized : (s : List ℕ) → List Request → Type 0
  Sized s [] = Unit {0}
  Sized s (r ∷ rs) = (cluster_size s ≡ cluster_size start) × Sized (ran backing s r) rs

  -- shows: what the guest reads of an image
  module _ (shows : List ℕ → ℕ → ℕ) where
    -- what each call that is run to its end leaves the guest to read
    unfoldable pub Reads : (s : List ℕ) → List Request → Type 0
    Reads s [] = Unit {0}
    Reads s (r ∷ rs) =
        Fed (wholly (plan_of backing s r)) (stores_count (plan_units (plan_of backing s r))) size (shows s) (finished C r (shows s)) (shows (ran backing s r))
        × Reads (ran backing s r) rs

    -- all calls are new
    pub whole_prefix : (s : List ℕ) (rs : List Request) → Reads s rs → FedAll wholly backing start s (shows s) rs (shows (memory backing s rs))
    unfolding FedAll Reads memory SameDisk
    whole_prefix s [] h = λ y l. refl
    whole_prefix s (r ∷ rs) h = (shows (ran backing s r), h.0, whole_prefix (ran backing s r) rs h.1)

    -- ---- one call, of which the guest clusters without a number show the old disk
    module _ (n : ℕ → ℕ) (s : List ℕ) (r : Request) (old : ℕ → ℕ) (same : (y : ℕ) → y < size → n (y / C) ≢ 0 → old y ≡ shows s y) where
      abbrev next : ℕ → ℕ
      next y = unless (n (y / C)) (λ k. shows (ran backing s r) y) (old y)

      next_old : (y : ℕ) → n (y / C) ≡ 0 → next y ≡ old y
      next_old y e = rw e refl

      next_new : (y : ℕ) → n (y / C) ≢ 0 → next y ≡ shows (ran backing s r) y
      next_new y d = go (n (y / C)) d
        where
          go : (k : ℕ) → k ≢ 0 → unless k (λ k. shows (ran backing s r) y) (old y) ≡ shows (ran backing s r) y
          go zero d = absurd (d refl)
          go (suc k) d = refl

      -- a refused call changes nothing
      refused-next : (k : ℕ) → plan_of backing s r ≡ refused k → SameDisk size next old
      unfolding SameDisk ran plan_units apply_all
      refused-next k e y l = go (ℕ_discrete (n (y / C)) 0)
        where
          is : ran backing s r ≡ s
          is = ap (λ (p : Plan). apply_all (plan_units p) s) e

          go : Dec (n (y / C) ≡ 0) → next y ≡ old y
          go (yes z) = next_old y z
          go (no d) = next_new y d ∙ ap (λ (t : List ℕ). shows t y) is ∙ sym (same y l d)

      -- a call inside guest cluster c is old or new by the number there
      within-next : (c : ℕ) → Within C r c → SameDisk size (shows (ran backing s r)) (finished C r (shows s)) → SameDisk size next old ⊎ SameDisk size next (finished C r old)
      unfolding SameDisk
      within-next c h new = go (ℕ_discrete (n c) 0)
        where
          all_old : n c ≡ 0 → (y : ℕ) → y < size → Dec (n (y / C) ≡ 0) → next y ≡ old y
          all_old z y l (yes e) = next_old y e
          all_old z y l (no d) = next_new y d ∙ new y l ∙ h (shows s) y (λ e. d (ap n e ∙ z)) ∙ sym (same y l d)

          all_new : n c ≢ 0 → (y : ℕ) → y < size → Dec (n (y / C) ≡ 0) → next y ≡ finished C r old y
          all_new d y l (yes e) = next_old y e ∙ sym (h old y (λ z. d (ap n (sym z) ∙ e)))
          all_new d y l (no b) = next_new y b ∙ new y l ∙ finished-at C r (shows s) old y (sym (same y l b))

          go : Dec (n c ≡ 0) → SameDisk size next old ⊎ SameDisk size next (finished C r old)
          go (yes z) = inl (λ y l. all_old z y l (ℕ_discrete (n (y / C)) 0))
          go (no d) = inr (λ y l. all_new d y l (ℕ_discrete (n (y / C)) 0))

      fed-next : (stores : Bool) (p : Plan) → plan_of backing s r ≡ p → Narrow C r p → Fed (wholly p) stores size (shows s) (finished C r (shows s)) (shows (ran backing s r))
          → Fed (cut_short p) stores size old (finished C r old) next
      unfolding Narrow Fed wholly cut_short
      fed-next stores (refused k) e h w = refused-next k e
      fed-next stores (units us) e h w = strong stores size old (finished C r old) next (within-next h.0 h.1 w) 0

    -- ---- all calls: the guest clusters without a number show the old disk, the others as many calls as their number says
    prefix_from : (rs : List Request) (s : List ℕ) (n : ℕ → ℕ) (old : ℕ → ℕ) → ((y : ℕ) → y < size → n (y / C) ≢ 0 → old y ≡ shows s y) → Sized s rs → Reads s rs
        → FedAll cut_short backing start s old rs (λ y. unless (n (y / C)) (λ k. shows (memory backing s (take k rs)) y) (old y))
    unfolding FedAll Sized Reads memory SameDisk
    prefix_from [] s n old same z h = λ y l. go y l (n (y / C)) refl
      where
        go : (y : ℕ) → y < size → (k : ℕ) → n (y / C) ≡ k → unless k (λ k. shows (memory backing s (take k [])) y) (old y) ≡ old y
        go y l zero e = refl
        go y l (suc k) e = sym (same y l (λ b. suc-ne-zero k (sym e ∙ b)))
    prefix_from (r ∷ rs) s n old same z h = (
      next n s r old same,
      fed-next n s r old same _ (plan_of backing s r) refl (subst (λ (c : ℕ). Narrow c r (plan_of backing s r)) z.0 (narrow backing s r)) h.0,
      fed-all-same cut_short (ran backing s r) rs (next n s r old same) (next n s r old same) _ _ (λ y l. refl) (λ y l. go y (n (y / C)))
          (prefix_from rs (ran backing s r) (λ c. n c - 1) (next n s r old same) (λ y l d. next_new n s r old same y (λ e. d (omega arith))) z.1 h.1),
    )
      where
        go : (y k : ℕ) → unless (k - 1) (λ a. shows (memory backing (ran backing s r) (take a rs)) y) (unless k (λ a. shows (ran backing s r) y) (old y))
            ≡ unless k (λ a. shows (memory backing s (take a (r ∷ rs))) y) (old y)
        go y zero = refl
        go y (suc zero) = refl
        go y (suc (suc k)) = let e : suc (suc k) - 1 ≡ suc k = omega arith in rw e refl

    pub prefix : (s : List ℕ) (rs : List Request) (n : ℕ → ℕ) → Sized s rs → Reads s rs → FedAll cut_short backing start s (shows s) rs (λ y. shows (memory backing s (take (n (y / C)) rs)) y)
    unfolding SameDisk memory
    prefix s rs n z h =
        fed-all-same cut_short s rs (shows s) (shows s) _ _ (λ y l. refl) (λ y l. go y (n (y / C))) (prefix_from rs s n (shows s) (λ y l d. refl) z h)
      where
        go : (y k : ℕ) → unless k (λ a. shows (memory backing s (take a rs)) y) (shows s y) ≡ shows (memory backing s (take k rs)) y
        go y zero = refl
        go y (suc k) = refl
