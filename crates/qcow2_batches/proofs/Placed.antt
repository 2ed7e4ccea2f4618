-- One more call of a batch: data are overwritten in place. Assumes nothing.
use Prim.Native.Nat.{ℕ, ◌+◌, ◌*◌, ◌/◌, ◌%◌}
use mathlib.Core.Path.{◌≡◌, refl, sym, subst}
use mathlib.Core.Logic.{◌⊎◌, inl, inr, ◌≢◌}
use mathlib.Core.List.{List, []}
use Rattle.cuts.proofs.Cell.{mem}
use Rattle.cuts.proofs.Run.{apply_all, fill, Each}
use Rattle.batches.proofs.Unseen.{Hidden}
use Rattle.batches.proofs.Batch.{Visible, Call}
use Rattle.batches.proofs.Overwrite.{seen, overwrite}
use Rattle.units.specs.Units.{UnitStore}
use Rattle.units.specs.Units.{apply_all as apply_all_u, fill as fill_u}
use Rattle.qcow2_spec.specs.Header.{cluster_size, per_table}
use Rattle.qcow2_spec.specs.Disk.{Request, write}
use Rattle.qcow2_spec.specs.Steps.{Extent, extents}
use Rattle.qcow2_spec.proofs.Facts.{Facts}
use Rattle.qcow2_spec.proofs.Geo.{nr, geo, code}
use Rattle.qcow2_spec.proofs.Kind.{Span, Owned, D, Numbered, numbered}
use Rattle.qcow2_spec.proofs.Units.{Like, none, like_fill, like_all, fill_quiet}
use Rattle.qcow2_batches.proofs.Covers.{Alike}
use Rattle.qcow2_batches.proofs.Sorted.{sorted_fill}
use Rattle.qcow2_batches.proofs.State.{Past, m0, State}
use Rattle.qcow2_batches.proofs.Added.{Early, unseen, visible, Added, add}

module _ (backing img : List ℕ) (all : List Request) (s : List ℕ) (fs : Facts s) (p0 p1 p2 p3 : List UnitStore)
    (st : State backing img all (geo s) (code s) s p0 p1 p2 p3) (ready : List Extent) (al : Alike ready (extents p1)) where
  module _ (x : ℕ) (d : List ℕ) (a at : ℕ) (sp : Span backing s fs x d) (ow : Owned backing s fs (x / cluster_size s) a) (some : D backing s fs (x / cluster_size s) ≢ 0)
      (is : at ≡ D backing s fs (x / cluster_size s) * cluster_size s + x % cluster_size s)
      (now : Past backing img all (geo s) (code s) (mem (cluster_size s) (apply_all_u (fill_u at d) s))) where
    abbrev i : ℕ
    i = nr 0 (x / cluster_size s / per_table s)

    abbrev j : ℕ
    j = x / cluster_size s % per_table s

    abbrev o : ℕ
    o = x % cluster_size s

    abbrev c : ℕ
    c = D backing s fs (x / cluster_size s)

    num : Numbered backing s fs (x / cluster_size s)
    num = numbered backing s fs _ ow.in_root

    likes : Like (cluster_size s) (fill_u at d) (fill c o d)
    likes = like_fill (cluster_size s) at c o d is sp.in_cluster some

    -- what the machinery stores
    done : apply_all_u (fill_u at d) s ≡ apply_all (cluster_size s) (fill c o d) s
    done = like_all likes s

    now₁ : Past backing img all (geo s) (code s) (mem (cluster_size s) (apply_all (cluster_size s) (fill c o d) s))
    now₁ = subst (λ (t : List ℕ). Past backing img all (geo s) (code s) (mem (cluster_size s) t)) done now

    call : Call (geo s) (code s) st.ok (m0 backing img all) img st.begun (Past backing img all (geo s) (code s)) st.role st.role st.dead st.dead (fill c o d) [] [] s (apply_all_u (fill_u at d) s)
    call =
        subst (λ (t : List ℕ). Call (geo s) (code s) st.ok (m0 backing img all) img st.begun (Past backing img all (geo s) (code s)) st.role st.role st.dead st.dead (fill c o d) [] [] s t) (sym done)
        (overwrite (geo s) (code s) st.ok (m0 backing img all) img st.begun (Past backing img all (geo s) (code s)) st.role st.dead st.r st.l st.f s st.batch.planned i j o d num.in_roots num.in_table
        sp.in_cluster sp.bytes some (ow.lone_data some) now₁)

    early : Each (Hidden (geo s) (code s) st.ok (m0 backing img all) img) (fill c o d)
        ⊎ Visible (geo s) (code s) st.ok (m0 backing img all) img st.begun (Past backing img all (geo s) (code s)) i j o d (fill c o d)
        → Early backing img all (geo s) (code s) st.ok (write x d) (fill_u at d) (fill_u at d)
    early (inl h) = unseen likes h
    early (inr v) = visible (fill_quiet at d) refl refl num.in_roots num.active num.in_table sp.bytes sp.in_cluster (subst (Like (cluster_size s) (fill_u at d)) v.is likes) v.some v.one v.plain

    pub placed-added : Added backing img all s fs p0 p1 p2 p3 st ready al (write x d) (fill_u at d)
    placed-added =
        add backing img all s fs p0 p1 p2 p3 st ready al (write x d) (fill_u at d) (fill_u at d) [] [] st.role st.dead (fill c o d) [] [] (sorted_fill s ready at d) likes none none call
        (λ t k n e. inl e) (λ k n e. inl e)
        (early (seen (geo s) (code s) st.ok (m0 backing img all) img st.begun (Past backing img all (geo s) (code s)) st.role st.dead st.r st.l st.f s st.batch.planned i j o d num.in_roots num.in_table
        sp.in_cluster sp.bytes some (ow.lone_data some) now₁))
