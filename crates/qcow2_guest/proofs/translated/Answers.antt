use Rattle.std.specs.Prelude.{Err}
use mathlib.Core.Path.{ap}
use native.Mathlib.Omega.{arith}
use borrow.Author.Tests.{le-leb, lt-leb}
use Rattle.qcow2_spec.specs.Header.{disk_size}
use Rattle.qcow2_spec.specs.Guest.{translated}
use Rattle.qcow2_guest.proofs.Ready.{active_size}
use Rattle.qcow2_guest.proofs.translated.Goals as goal

pub returns-then-g-x : goal.returns-then-g-x
unfolding translated
returns-then-g-x c =
    let s = c.args.image.now in
    rw (le-leb (disk_size s) c.args.x (omega (arith, active_size c.args.g s c.requires))) (ap Err c.into.ensures)

pub locate-requires : goal.locate-requires
locate-requires c =
    (c.requires.0, omega (arith, c.requires.0.is-size))

pub returns : goal.returns
unfolding translated
returns c =
    let s = c.args.image.now in
    rw (lt-leb (disk_size s) c.args.x (omega (arith, active_size c.args.g s c.requires)), ← c.requires.1) c.locate.ensures
