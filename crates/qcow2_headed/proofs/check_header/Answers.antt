use borrow.Author.Tests.{ltb-false, eq-eqb, ne_eqb}
use Prim.Native.Nat.{ℕ, ◌≤◌}
use mathlib.Core.Path.{◌≡◌, sym, ◌∙◌, ap}
use mathlib.Core.Bool.{true, false, ◌||◌}
use mathlib.Core.List.{List}
use lib.Dec.{ltb, eqb}
use lib.ListN.{length}
use Rattle.choice.proofs.Tests.{or-false}
use Rattle.qcow2_spec.specs.Causes.{answer}
use Rattle.qcow2_spec.specs.Header.{least_length, least_bits, most_bits, magic, version, cluster_bits, header_number}
use Rattle.qcow2_limits.specs.Limits.{odd_length}
use Rattle.qcow2_fields.specs.Fields.{features}
use Rattle.qcow2_headed.specs.Numbers.{place_number, form_number}
use Rattle.qcow2_headed.proofs.check_header.Goals as goal
use Rattle.qcow2_headed.proofs.check_header.Goals.{Else-load32-ne-MAGIC, Else-too_short, Else-wrong_bits}

long : (c : Else-too_short) → 512 ≤ length c.args.image.now
long c = ltb-false _ _ (sym c.too_short.ensures ∙ c.if-too_short.false)

is-magic : (c : Else-load32-ne-MAGIC) → eqb (magic c.args.image.now) 0x514649FB ≡ true
is-magic c = eq-eqb _ _ (sym c.load32.ensures ∙ c.if-load32-ne-MAGIC.false)

pub returns-then-too_short : goal.returns-then-too_short
unfolding header_number
returns-then-too_short c = rw (← c.too_short.ensures, c.if-too_short.true) cc

pub returns-then-load32-ne-MAGIC : goal.returns-then-load32-ne-MAGIC
unfolding header_number
returns-then-load32-ne-MAGIC c = rw (← c.too_short.ensures, c.if-too_short.false, ne_eqb (magic c.args.image.now) 0x514649FB (λ e. c.if-load32-ne-MAGIC.true (c.load32.ensures ∙ e))) cc

pub returns-then-not-is_version : goal.returns-then-not-is_version
unfolding header_number version
returns-then-not-is_version c = rw (← c.too_short.ensures, c.if-too_short.false, is-magic (goal.at.returns-then-not-is_version c).Else-load32-ne-MAGIC, ← c.load32-2.ensures, ← c.is_version.ensures, c.if-not-is_version.true) cc

pub returns-then-wrong_bits : goal.returns-then-wrong_bits
unfolding header_number version
returns-then-wrong_bits c =
    rw (← c.too_short.ensures, c.if-too_short.false, is-magic (goal.at.returns-then-wrong_bits c).Else-load32-ne-MAGIC, ← c.load32-2.ensures, ← c.is_version.ensures, c.if-not-is_version.false, ← c.load32-3.ensures, ← c.wrong_bits.ensures, c.if-wrong_bits.true) cc

-- the cluster size passes
bits-pass : (c : Else-wrong_bits) → (ltb (cluster_bits c.args.image.now) least_bits || ltb most_bits (cluster_bits c.args.image.now)) ≡ false
bits-pass c = rw c.load32-3.ensures at (sym c.wrong_bits.ensures ∙ c.if-wrong_bits.false)

pub check_form-requires : goal.check_form-requires
check_form-requires c =
    let t = or-false (ltb (cluster_bits c.args.image.now) least_bits) _ (bits-pass (goal.at.check_form-requires c).Else-wrong_bits) in
    record { long = long (goal.at.check_form-requires c).Else-too_short; low = ltb-false _ _ t.0; high = ltb-false _ _ t.1 }

-- 1 to 4 do not apply
header-form : (s : List ℕ) → ltb (length s) least_length ≡ false → eqb (magic s) 0x514649FB ≡ true → (eqb (version s) 2 || eqb (version s) 3) ≡ true
    → (ltb (cluster_bits s) least_bits || ltb most_bits (cluster_bits s)) ≡ false → form_number s ≡ header_number s
unfolding header_number form_number place_number odd_length features
header-form s a b c d = rw (a, b, c, d)

pub returns : goal.returns
unfolding version
returns c =
    let v = rw c.load32-2.ensures at (sym c.is_version.ensures ∙ c.if-not-is_version.false) in
    c.check_form.ensures ∙ ap answer (header-form _ (sym c.too_short.ensures ∙ c.if-too_short.false) (is-magic (goal.at.returns c).Else-load32-ne-MAGIC) v (bits-pass (goal.at.returns c).Else-wrong_bits))
