-- What it shows that the header's number is 0. Assumes nothing.
use Prim.Native.Nat.{ℕ, ◌%◌}
use native.Mathlib.Omega.{arith}
use mathlib.Core.Path.{◌≡◌, ap, ◌∙◌}
use mathlib.Core.Bool.{false, not, ◌&&◌, ◌||◌}
use mathlib.Core.List.{List}
use lib.Dec.{ltb, eqb}
use lib.ListN.{length}
use borrow.Author.Tests.{ltb-false, eqb-true, not-false}
use Rattle.choice.proofs.Tests.{if_zero, or-false}
use Rattle.qcow2_spec.specs.Header.{least_length, least_bits, most_bits, most_length, magic, version, cluster_bits, cluster_size, count_order, incompatible, unsupported, too_big, odd_size, bad_tables, header_number}
use Rattle.qcow2_spec.specs.Opened.{geometry}
use Rattle.qcow2_spec.specs.declared.Geometry.{Geometry}
use Rattle.qcow2_spec.proofs.Facts.{order_small}
use Rattle.qcow2_limits.specs.Limits.{Known, Sized}
use Rattle.qcow2_fields.specs.Fields.{Supported, Read}
use Rattle.qcow2_header.proofs.Laws.{whole_room, tables-is, placed}
use Rattle.qcow2_taken.specs.Taking.{Held}

module _ (s : List ℕ) (h : header_number s ≡ 0) where
  tests : Supported s × (bad_tables s ≡ false)
  unfolding header_number
  tests =
      let a = if_zero (ltb (length s) least_length) _ _ h in
      let b = if_zero (not (eqb (magic s) 0x514649FB)) _ _ a.1 in
      let c = if_zero (not (eqb (version s) 2 || eqb (version s) 3)) _ _ b.1 in
      let d = if_zero (ltb (cluster_bits s) least_bits || ltb most_bits (cluster_bits s)) _ _ c.1 in
      let f = if_zero (not (eqb (length s % cluster_size s) 0) || ltb most_length (length s)) _ _ d.1 in
      let g = if_zero (unsupported s) _ _ f.1 in
      let i = if_zero (eqb (version s) 3 && not (eqb (incompatible s) 0)) _ _ g.1 in
      let j = if_zero (too_big s) _ _ i.1 in
      let m = if_zero (odd_size s) _ _ j.1 in
      let t = if_zero (bad_tables s) _ _ m.1 in
      let l = ltb-false (length s) least_length a.0 in
      let d1 = or-false (ltb (cluster_bits s) least_bits) _ d.0 in
      let f1 = or-false (not (eqb (length s % cluster_size s) 0)) _ f.0 in
      let k : Known s = record { long = l; low = ltb-false _ _ d1.0; high = ltb-false _ _ d1.1 } in
      let z : Sized s = record { known = k; short = ltb-false _ _ f1.1; room = whole_room (length s) (cluster_size s) (omega arith) (eqb-true _ _ (not-false _ f1.0)) } in
      (record { sized = z; narrow = order_small s g.0 }, t.0)

  pub supported : Supported s
  supported = tests.0

  pub held : (g : Geometry) → Read g s → Held g s
  unfolding geometry
  held g r =
      let o : g.order ≡ count_order s = ap (λ (x : Geometry). x.order) r.is in
      record { placed = placed g s r (tables-is g s r.is ∙ tests.1); narrow = rw o supported.narrow }
