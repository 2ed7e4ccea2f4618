-- How far the entries of all L1 tables pass: the spot, table by table.
-- Assumes nothing.
use Rattle.std.specs.Prelude.{if◌then◌else◌}
use Prim.Native.Nat.{ℕ, ◌+◌, ◌≤◌, ◌<◌}
use mathlib.Core.Path.{◌≡◌, refl, sym, ap, ◌∙◌, subst}
use mathlib.Core.Bool.{Bool, true, false}
use mathlib.Core.List.{List}
use native.Mathlib.Nat.{not-suc-le-zero}
use native.Mathlib.Omega.{arith}
use borrow.Author.Tests.{eqb-true, eqb-false, ltb-true, ltb-false}
use lib.Dec.{eqb, ltb}
use Rattle.qcow2_spec.specs.Header.{root_size}
use Rattle.qcow2_refs.specs.Walks.{PassTo, Found}
use Rattle.qcow2_trees.specs.declared.Spot.{Spot}
use Rattle.qcow2_trees.specs.Walks.{data_by, onward, Front}

pub front-first : (states : Bool) (s : List ℕ) → Front states s 0 0 0 0
front-first states s =
    record { few = omega arith; whole = λ t l. absurd (not-suc-le-zero l); inside = λ l. absurd (not-suc-le-zero l); rows = λ k l. absurd (not-suc-le-zero l); clear = λ k l. absurd (not-suc-le-zero l) }

module _ (states : Bool) (s : List ℕ) (t : ℕ) where
  abbrev At : Spot → ℕ → Type 0
  At f n = Front states s n f.root f.row f.below

  -- it stays once some entry does not pass
  kept : (f : Spot) → f.root < t → At f t → At f (t + 1)
  kept f h a = record { few = omega arith; whole = a.whole; inside = λ l. a.inside h; rows = a.rows; clear = a.clear }

  before : (root : ℕ) → t ≤ root → root ≤ t → ((k : ℕ) → k < root → PassTo (data_by states k) s k (root_size s k)) → (k : ℕ) → k < t → PassTo (data_by states k) s k (root_size s k)
  before root h g w k l = w k (omega arith)

  -- table t is the first with such an entry
  stopped : (good below rows : ℕ) → good < rows → rows ≡ root_size s t → ((k : ℕ) → k < t → PassTo (data_by states k) s k (root_size s k))
      → Found (data_by states t) s t rows good below → Front states s (t + 1) t good below
  stopped good below rows h e w d =
      record { few = omega arith; whole = w; inside = λ l. omega arith; rows = d.front; clear = (d.bad h).1 }

  -- table t passes too
  passed : (good below rows : ℕ) → rows ≤ good → rows ≡ root_size s t → ((k : ℕ) → k < t → PassTo (data_by states k) s k (root_size s k))
      → Found (data_by states t) s t rows good below → Front states s (t + 1) (t + 1) 0 0
  passed good below rows h e w d =
      record { few = omega arith; whole = λ k l. at k l (eqb k t) refl; inside = λ l. absurd (omega arith); rows = λ k l. absurd (not-suc-le-zero l); clear = λ k l. absurd (not-suc-le-zero l) }
    where
      at : (k : ℕ) → k < t + 1 → (v : Bool) → eqb k t ≡ v → PassTo (data_by states k) s k (root_size s k)
      at k l true q = let z = eqb-true k t q in rw z (λ i m. d.front i (omega (arith, m, e, h)))
      at k l false q = w k (let z = eqb-false k t q in omega arith)

  front-next : (f : Spot) (good below rows : ℕ) → rows ≡ root_size s t → At f t → Found (data_by states t) s t rows good below → At (onward f t good below rows) (t + 1)
  unfolding onward
  front-next f good below rows e a d = go (ltb f.root t) refl (ltb good rows) refl
    where
      w : t ≤ f.root → (k : ℕ) → k < t → PassTo (data_by states k) s k (root_size s k)
      w h = before f.root h a.few a.whole

      go : (b : Bool) → ltb f.root t ≡ b → (c : Bool) → ltb good rows ≡ c
          → At (if b then f else if c then record { root = t; row = good; below = below } else record { root = t + 1; row = 0; below = 0 }) (t + 1)
      go true h c g = kept f (ltb-true _ _ h) a
      go false h true g = stopped good below rows (ltb-true _ _ g) e (w (ltb-false _ _ h)) d
      go false h false g = passed good below rows (ltb-false _ _ g) e (w (ltb-false _ _ h)) d

  -- the same in the numbers that the code has
  pub front-walked : (f x : Spot) (kind root good below rows : ℕ) → kind ≡ data_by states t → root ≡ t → rows ≡ root_size s root → At f t
      → Found kind s root rows good below → x ≡ onward f t good below rows → At x (t + 1)
  front-walked f x kind root good below rows k r e a d o =
      let g : Found (data_by states t) s t rows good below = subst (λ (u : ℕ). Found (data_by states t) s u rows good below) r (subst (λ (y : ℕ). Found y s root rows good below) k d) in
      subst (λ (y : Spot). At y (t + 1)) (sym o) (front-next f good below rows (e ∙ ap (root_size s) r) a g)
