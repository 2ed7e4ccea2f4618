use native.Mathlib.Omega.{arith}
use Prim.Native.Nat.{ℕ, ◌-◌, ◌^◌}
use mathlib.Core.Path.{◌≡◌, sym, ap, ◌∙◌}
use mathlib.Core.Bool.{Bool}
use mathlib.Core.List.{List}
use Rattle.choice.specs.Pick.{first}
use Rattle.qcow2_spec.specs.Header.{cluster_size, entry_end, snapshot_at, bad_snapshot}
use Rattle.qcow2_snapshots.specs.Entry.{bad_entry}
use Rattle.qcow2_snapshots.proofs.Laws.{entry_read, snapshot_first, snapshot_next, snapshot_bad, search_next, search_stop}
use Rattle.qcow2_snapshots.proofs.some_bad.Goals as goal

pub loop-k-init : goal.loop-k-init
loop-k-init c =
    let a = c.args in
    let e : a.count - 0 ≡ a.count = omega arith in
    (c.requires.1.1 ∙ snapshot_first a.image.now, ap (first (bad_snapshot a.image.now) 0) e)

-- what is told of entry k
told : (C : ℕ) (s : List ℕ) (k p : ℕ) (r b : Bool) → cluster_size s ≡ C → p ≡ snapshot_at s k → r ≡ bad_entry C s p → r ≡ b → bad_snapshot s k ≡ b
told C s k p r b c e f h = snapshot_bad C s k c ∙ rw e at (sym f ∙ h)

pub returns-then-bad_entry : goal.returns-then-bad_entry
returns-then-bad_entry c =
    let l = c.loop-k in
    let a = c.args in
    search_stop (bad_snapshot a.image.now) l._k a.count _ l.invariant.1 (omega arith) (told (2 ^ a.bits) _ l._k l.p _ _ c.requires.1.0 l.invariant.0 c.bad_entry.ensures c.if-bad_entry.true)

pub entry_end-p-requires : goal.entry_end-p-requires
entry_end-p-requires c =
    let a = c.args in
    (entry_read (2 ^ a.bits) a.image.now _ (sym c.bad_entry.ensures ∙ c.if-bad_entry.false), c.requires.0.0)

pub loop-k-preserved : goal.loop-k-preserved
loop-k-preserved c =
    let l = c.loop-k in
    let a = c.args in
    let s = a.image.now in
    let good = told (2 ^ a.bits) s l._k l.p _ _ c.requires.1.0 l.invariant.0 c.bad_entry.ensures c.if-bad_entry.false in
    (c.entry_end-p.ensures ∙ ap (λ (x : ℕ). entry_end s x) l.invariant.0 ∙ snapshot_next s l._k, search_next (bad_snapshot s) l._k a.count _ l.invariant.1 (omega arith) good)
