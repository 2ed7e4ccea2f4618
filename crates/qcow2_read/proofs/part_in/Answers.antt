use Rattle.std.specs.Prelude.{Ok}
use borrow.Author.Rules.{rules}
use native.Mathlib.Omega.{arith}
use Rattle.std.proofs.lemmas.Grind.{common_steps}
use Prim.Native.Nat.{◌+◌, ◌-◌}
use mathlib.Core.Path.{◌≡◌, sym, ◌∙◌}
use Rattle.qcow2_spec.specs.declared.Found.TheVariants.{Host}
use Rattle.qcow2_spec.specs.Guest.{translated, found_part}
use Rattle.qcow2_guest.proofs.Pieces.{host_found, host_part}
use Rattle.qcow2_read.proofs.part_in.Goals as goal
use Rattle.qcow2_read.proofs.part_in.Goals.{In-Ok-Host}

-- the host offset in the translation
host_told : (c : In-Ok-Host) → Ok (Host c.in-Ok-Host.h) ≡ translated c.args.image.now c.args.x
host_told c = let e : c.translated-f.result ≡ Ok (Host c.in-Ok-Host.h) = search rules in sym e ∙ c.translated-f.ensures

pub translated-f-requires : goal.translated-f-requires
translated-f-requires c = c.requires

pub overflow_sub-g : goal.overflow_sub-g
overflow_sub-g c =
    let a = c.args in
    let k = host_found a.g a.image.now c.requires.0 a.x c.requires.1 _ (sym (host_told (goal.at.overflow_sub-g c).In-Ok-Host)) in
    omega arith

pub overflow_add-result : goal.overflow_add-result
overflow_add-result c =
    let a = c.args in
    let k = host_found a.g a.image.now c.requires.0 a.x c.requires.1 _ (sym (host_told (goal.at.overflow_add-result c).In-Ok-Host)) in
    omega arith

pub slice_bounds-result-end : goal.slice_bounds-result-end
slice_bounds-result-end c =
    let a = c.args in
    let k = host_found a.g a.image.now c.requires.0 a.x c.requires.1 _ (sym (host_told (goal.at.slice_bounds-result-end c).In-Ok-Host)) in
    omega arith

pub returns-in-Ok-Host : goal.returns-in-Ok-Host
returns-in-Ok-Host c =
    let a = c.args in
    let h = c.in-Ok-Host.h in
    let m = c.piece-m.result in
    let d : h + m - h ≡ m = omega arith in
    rw d (host_part a.g a.image.now c.requires.0 a.x c.requires.1 h m (sym (host_told (goal.at.returns-in-Ok-Host c).In-Ok-Host)) c.piece-m.ensures)

pub returns-in-Ok-Zeros : goal.returns-in-Ok-Zeros
unfolding found_part
returns-in-Ok-Zeros c = grind (arith, common_steps)
