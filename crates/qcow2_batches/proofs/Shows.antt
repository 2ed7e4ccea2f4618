-- An image of which every guest cluster reads as in some image of the batch: each of the batch's calls is old or new there. Assumes nothing.
use Prim.Native.Nat.{ℕ, ◌*◌, ◌/◌, ◌%◌, ◌<◌}
use native.Mathlib.Nat.{mod-lt}
use native.Mathlib.Decide.{dec_lt}
use mathlib.Core.Path.{◌≡◌, refl, sym, ap, ◌∙◌, subst}
use mathlib.Core.List.{List}
use lib.ListN.{length, take}
use lib.Seq.{take-append_seam}
use Rattle.cuts.proofs.Cell.{mem}
use Rattle.cuts.proofs.Step.{gread}
use Rattle.cuts.proofs.Call.{Ok}
use Rattle.qcow2_spec.specs.Header.{most_l1, cluster_size, disk_size, per_table, roots, root_size}
use Rattle.qcow2_spec.specs.Guest.{backing_byte}
use Rattle.qcow2_spec.specs.Disk.{Request, SameDisk}
use Rattle.qcow2_spec.specs.Series.{Bytes}
use Rattle.qcow2_spec.proofs.Facts.{Facts}
use Rattle.qcow2_spec.proofs.Geo.{nr, geo, code}
use Rattle.qcow2_spec.proofs.Seen.{Shots, cp, ep, in_l1, nr_l1}
use Rattle.qcow2_spec.proofs.Series.{Good, fs, next-good, next_seen}
use Rattle.qcow2_batches.specs.Batch.{memory}
use Rattle.qcow2_batches.specs.Series.{cut_short, FedAll, AllBytesOf}
use Rattle.qcow2_batches.proofs.Prefix.{prefix, fed-all-same}
use Rattle.qcow2_batches.proofs.State.{Past}
use Rattle.qcow2_batches.proofs.Goods.{bytes-front, shows, all-good, memory_kept}

module _ (backing start img : List ℕ) (all : List Request) (bb : Bytes backing) (b : Good backing start start) (k0 : Good backing start img) (sm : AllBytesOf all) where
  abbrev PastIn : (ℕ → ℕ → ℕ) → Type 0
  PastIn = Past backing img all (geo img) (code img)

  pub part_bytes : {y : ℕ → ℕ → ℕ} (p : PastIn y) → AllBytesOf p.done
  part_bytes p = bytes-front p.done p.rest (subst AllBytesOf (sym p.whole) sm)

  module _ (t : List ℕ) (q : Ok (geo img) (code img) (mem (cluster_size img) img) t)
      (shown : (i j : ℕ) → i < roots img * most_l1 → j < per_table img
      → (y : ℕ → ℕ → ℕ) × PastIn y × ((o : ℕ) → o < cluster_size img → gread (geo img) (code img) (mem (cluster_size img) t) i j o ≡ gread (geo img) (code img) y i j o)) where
    -- the calls that guest cluster j below L1 entry i shows
    abbrev calls : (i j : ℕ) → i < roots img * most_l1 → j < per_table img → List Request
    calls i j i_l j_e = (shown i j i_l j_e).1.done

    reads : (i j : ℕ) (i_l : i < roots img * most_l1) (j_e : j < per_table img) (o : ℕ) → o < cluster_size img
        → gread (geo img) (code img) (mem (cluster_size img) t) i j o ≡ gread (geo img) (code img) (mem (cluster_size img) (memory backing img (calls i j i_l j_e))) i j o
    reads i j i_l j_e o o_c = (shown i j i_l j_e).2 o o_c ∙ (shown i j i_l j_e).1.same i j o i_l j_e o_c

    part-kept : (i j : ℕ) (i_l : i < roots img * most_l1) (j_e : j < per_table img)
        → Ok (geo img) (code img) (mem (cluster_size img) img) (memory backing img (calls i j i_l j_e)) × Shots backing img (fs backing start img k0) (memory backing img (calls i j i_l j_e))
    part-kept i j i_l j_e = memory_kept backing start bb b img k0 (calls i j i_l j_e) (part_bytes (shown i j i_l j_e).1)

    shots : Shots backing img (fs backing start img k0) t
    shots i j o i_l i_m j_e o_c = reads i j i_l j_e o o_c ∙ (part-kept i j i_l j_e).1 i j o i_l i_m j_e o_c

    pub shows_good : Good backing start t
    shows_good = next-good backing start img k0 t q shots

    -- how many calls guest cluster c shows
    unfoldable number_by : (c : ℕ) → Dec (c / per_table img < root_size img 0) → ℕ
    number_by c (yes h) = length (calls (nr 0 (c / per_table img)) (c % per_table img) (nr_l1 backing img (fs backing start img k0) _ h) (mod-lt c (ep backing img (fs backing start img k0))))
    number_by c (no h) = 0

    same_byte : (y : ℕ) → y < disk_size img → (d : Dec (y / cluster_size img / per_table img < root_size img 0))
        → shows backing start bb t y ≡ shows backing start bb (memory backing img (take (number_by (y / cluster_size img) d) all)) y
    unfolding SameDisk number_by
    same_byte y l (no h) = absurd (h (in_l1 backing img (fs backing start img k0) y l))
    same_byte y l (yes h) =
        sym (next_seen backing start img k0 t q y l)
        ∙ ap (λ (v : ℕ → ℕ). v (backing_byte backing img y)) (reads i j i_l j_e (y % cluster_size img) (mod-lt y (cp backing img f)))
        ∙ next_seen backing start img k0 (memory backing img (calls i j i_l j_e)) (part-kept i j i_l j_e).0 y l
        ∙ ap (λ (us : List Request). shows backing start bb (memory backing img us) y) (sym (take-append_seam (calls i j i_l j_e) (shown i j i_l j_e).1.rest) ∙ ap (take (length (calls i j i_l j_e))) (shown i j i_l j_e).1.whole)
      where
        f : Facts img
        f = fs backing start img k0

        i : ℕ
        i = nr 0 (y / cluster_size img / per_table img)

        j : ℕ
        j = y / cluster_size img % per_table img

        i_l : i < roots img * most_l1
        i_l = nr_l1 backing img f _ h

        j_e : j < per_table img
        j_e = mod-lt (y / cluster_size img) (ep backing img f)

    abbrev number : ℕ → ℕ
    number c = number_by c (dec_lt (c / per_table img) (root_size img 0))

    pub shows_fed : FedAll cut_short backing start img (shows backing start bb img) all (shows backing start bb t)
    unfolding SameDisk
    shows_fed =
        let w = all-good backing start bb b img k0 all sm in
        fed-all-same backing start cut_short img all (shows backing start bb img) (shows backing start bb img)
        (λ y. shows backing start bb (memory backing img (take (number (y / cluster_size start)) all)) y) (shows backing start bb t) (λ y l. refl)
        (λ y l. ap (λ (c : ℕ). shows backing start bb (memory backing img (take (number (y / c)) all)) y) (sym k0.one-C) ∙ sym (same_byte y (rw k0.one_size l) (dec_lt _ _)))
        (prefix backing start (shows backing start bb) img all number w.2 w.1)
