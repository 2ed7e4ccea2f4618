use native.Mathlib.Omega.{arith}
use Prim.Native.Nat.{ℕ, ◌^◌}
use mathlib.Core.Path.{◌≡◌, sym, ◌∙◌}
use mathlib.Core.Bool.{Bool, true, false}
use Rattle.qcow2_spec.specs.Header.{good_block}
use Rattle.qcow2_tables.proofs.Laws.{all-next, all_stop, all_done}
use Rattle.qcow2_tables.proofs.entries.all_named.Goals as goal

-- what is told of entry i
told : (p : ℕ → Bool) (e x : ℕ) (r b : Bool) → e ≡ x → r ≡ p e → r ≡ b → p x ≡ b
told p e x r b f g h = rw f at (sym g ∙ h)

pub loop-i-preserved : goal.loop-i-preserved
loop-i-preserved c =
    let l = c.loop-i in
    let a = c.args in
    let p : ℕ → Bool = good_block (2 ^ a.bits) a.n in
    all-next p a.count l.i a.table.now l.invariant (omega arith) (told p _ _ _ true c.load64.ensures c.names_block.ensures c.if-not-names_block.false)

pub returns-then-not-names_block : goal.returns-then-not-names_block
returns-then-not-names_block c =
    let l = c.loop-i in
    let a = c.args in
    let p : ℕ → Bool = good_block (2 ^ a.bits) a.n in
    all_stop p a.count l.i a.table.now l.invariant (omega arith) (told p _ _ _ false c.load64.ensures c.names_block.ensures c.if-not-names_block.true)

pub returns : goal.returns
returns c =
    let l = c.loop-i in
    let a = c.args in
    all_done (good_block (2 ^ a.bits) a.n) a.count l.i a.table.now l.invariant (omega arith)
