-- The plan by the places that the code works out. Assumes nothing.
use Rattle.std.specs.Prelude.{if◌then◌else◌, Err}
use Prim.Native.Nat.{ℕ, zero, suc, ◌-◌, ◌*◌, ◌^◌, ◌≤◌}
use native.Mathlib.Nat.{mul_assoc}
use native.Mathlib.Omega.{arith}
use mathlib.Core.Path.{◌≡◌, refl, sym, ap, ◌∙◌}
use mathlib.Core.List.{List, [], ◌∷◌}
use lib.ListN.{length}
use lib.Pow.{pow_mono}
use Rattle.choice.specs.Pick.{unless}
use Rattle.tally.specs.Tally.{run}
use Rattle.units.specs.Units.{cluster}
use Rattle.units.specs.Plan.{refused, units, Done}
use Rattle.units.proofs.Steps.{refusal}
use Rattle.qcow2_spec.specs.Header.{most_bits, count_order, width, table_at, blocks, block_at}
use Rattle.qcow2_spec.specs.Store.{clearing}
use Rattle.qcow2_spec.specs.Opened.{geometry}
use Rattle.qcow2_spec.specs.declared.Geometry.{Geometry}
use Rattle.qcow2_longer.specs.Extend.{old_blocks, new_blocks, new_place, to_make, new_block, make_block, make_blocks, extend_number, extend_plan}
use Rattle.qcow2_header.proofs.Laws.{entries_fit}
use Rattle.qcow2_taken.specs.Taking.{Held}
use Rattle.qcow2_taken.proofs.Spans.{is-cluster, is-counts, span-inside, few-blocks, old_fewer}
use Rattle.qcow2_extend.specs.declared.making.Layout.{Layout}
use Rattle.qcow2_noted.specs.Noting.{unmade}
use Rattle.qcow2_extend.specs.Making.{LaidOut, Fits, new_units, made_where, Ready}
use Rattle.qcow2_extend.proofs.Blocks.{own_block, own-small}

-- a refusal
pub plan_refused : (s : List ℕ) (old a k : ℕ) → k ≡ extend_number s old → (k ≡ 0 → ⊥) → Done (extend_plan s old) a s (Err k) s
unfolding extend_plan
plan_refused s old a k e h = rw (← e) (go k h)
  where
    go : (n : ℕ) → (n ≡ 0 → ⊥) → Done (unless n refused (clearing s (units (make_blocks s (new_blocks s old))))) a s (Err n) s
    go zero z = absurd (z refl)
    go (suc n) z = refusal (suc n) a s (Err (suc n)) refl

module _ (g : Geometry) (s : List ℕ) (h : Held g s) (p : Layout) (l : LaidOut g p) where
  at_table : p.table ≡ table_at s
  unfolding geometry
  at_table = l.is-table ∙ ap (λ (x : Geometry). x.tableat) h.placed.read.is

  at_place : (i : ℕ) → i * p.span ≡ new_place s i
  unfolding new_place
  at_place i = rw (l.is-span, is-counts g s h, is-cluster g s h) (sym (mul_assoc i _ _))

  big : 512 ≤ 2 ^ g.bits
  big = pow_mono {i = 9} {j = g.bits} h.placed.read.low

  block : cluster p.size p.own (1 ∷ []) ≡ new_block s
  unfolding new_block width geometry
  block =
      let o : g.order ≡ count_order s = ap (λ (x : Geometry). x.order) h.placed.read.is in
      rw (l.is-size, l.is-own, ← is-cluster g s h, ← o) (sym (own_block (2 ^ g.bits) g.order h.narrow (omega (arith, big))))

  made : (i : ℕ) → make_block s i ≡ (if unmade s p.table i then new_units p i else [])
  unfolding make_block to_make block_at new_units
  made i = rw (block, at_table, at_place i)

  makes : (i k : ℕ) → make_blocks s (run i k) ≡ made_where p (unmade s p.table) i k
  unfolding make_blocks run made_where
  makes i zero = refl
  makes i (suc k) = rw (made i, makes (suc i) k)

  -- the plan of what is accepted
  pub plan_taken : (old from : ℕ) → extend_number s old ≡ 0 → from ≡ old_blocks s old
      → extend_plan s old ≡ clearing s (units (made_where p (unmade s p.table) from (p.blocks - from)))
  unfolding extend_plan new_blocks geometry
  plan_taken old from e f =
      let b : p.blocks ≡ blocks s = l.is-blocks ∙ ap (λ (x : Geometry). x.blocks) h.placed.read.is in
      rw (e, makes, f, b)

  -- what storing asks for
  fits : Fits (length s) p
  fits =
      let r = h.placed.read in
      record {
        inside = λ i m. rw (l.is-span, l.is-size) (span-inside g s h i (rw l.is-blocks at m));
        entered = rw (l.is-table, l.is-blocks) (omega (arith, h.placed.fits, h.placed.enough, entries_fit g.tableclusters (2 ^ g.bits)));
        owned = rw (l.is-own, l.is-size) (omega (arith, own-small g.order h.narrow, big));
        small = rw l.is-size (pow_mono {i = g.bits} {j = most_bits} r.high);
        short = r.short;
      }

  pub plan_ready : (old from : ℕ) → from ≡ old_blocks s old → old ≤ length s → Ready s p g.version from
  unfolding geometry
  plan_ready old from f m =
      record {
        fits = fits;
        long = h.placed.read.long;
        is-version = ap (λ (x : Geometry). x.version) h.placed.read.is;
        earlier = rw (f, l.is-blocks) (old_fewer g s h old m);
        few = rw l.is-blocks (few-blocks g s h);
      }
