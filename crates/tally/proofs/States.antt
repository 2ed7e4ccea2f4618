-- Laws of a scratch once clusters are visited.
-- Assumes nothing.
use Prim.Native.Nat.{ℕ, zero, suc, ◌+◌, ◌-◌, ◌*◌, ◌≤◌, ◌<◌}
use native.Mathlib.Omega.{arith}
use mathlib.Core.Path.{◌≡◌, refl, sym, ap, ◌∙◌}
use mathlib.Core.List.{List, [], ◌∷◌, ◌++◌}
use lib.ListN.{length, take, drop, take-append-drop}
use lib.Seq.{sets, length-sets}
use Rattle.endian.specs.Big.{be16, bytes16}
use Rattle.tally.specs.Tally.{joined, bumped_wide, bump_all_wide}
use Rattle.tally.specs.States.{step, table_kind, data_kind, visited, visit_all, entry_visited, tree_visited, forest_visited}
use Rattle.tally.proofs.Steps.{step_count}

pub length-visited : (kind : ℕ) (s : List ℕ) (c : ℕ) → length (visited kind s c) ≡ length s
unfolding visited
length-visited kind s c = length-sets s (2 * c) (bytes16 (step kind (be16 s (2 * c))))

pub length-visit_all : (kind : ℕ) (rs s : List ℕ) → length (visit_all kind rs s) ≡ length s
unfolding visit_all
length-visit_all kind [] s = refl
length-visit_all kind (c ∷ cs) s = length-visit_all kind cs (visited kind s c) ∙ length-visited kind s c

pub visit_all_append : (kind : ℕ) (rs qs s : List ℕ) → visit_all kind (rs ++ qs) s ≡ visit_all kind qs (visit_all kind rs s)
unfolding visit_all
visit_all_append kind [] qs s = refl
visit_all_append kind (c ∷ cs) qs s = visit_all_append kind cs qs (visited kind s c)

pub visit_all-one : (kind c : ℕ) (s : List ℕ) → visit_all kind (c ∷ []) s ≡ visited kind s c
unfolding visit_all
visit_all-one kind c s = refl

-- ---- kind 0 counts alone
pub visited-count : (s : List ℕ) (c : ℕ) → visited 0 s c ≡ bumped_wide s c
unfolding visited bumped_wide
visited-count s c = ap (λ (x : ℕ). sets s (2 * c) (bytes16 x)) (step_count (be16 s (2 * c)))

pub visit_all-count : (rs s : List ℕ) → visit_all 0 rs s ≡ bump_all_wide rs s
unfolding visit_all bump_all_wide
visit_all-count [] s = refl
visit_all-count (c ∷ cs) s = visit_all-count cs (visited 0 s c) ∙ ap (bump_all_wide cs) (visited-count s c)

pub bump_all_wide_append : (rs qs s : List ℕ) → bump_all_wide (rs ++ qs) s ≡ bump_all_wide qs (bump_all_wide rs s)
unfolding bump_all_wide
bump_all_wide_append [] qs s = refl
bump_all_wide_append (c ∷ cs) qs s = bump_all_wide_append cs qs (bumped_wide s c)

pub entry_visited-count : (rs s : List ℕ) → entry_visited 0 0 rs s ≡ bump_all_wide rs s
unfolding entry_visited
entry_visited-count rs s =
    sym (visit_all_append 0 (take 1 rs) (drop 1 rs) s) ∙ ap (λ (l : List ℕ). visit_all 0 l s) (take-append-drop 1 rs) ∙ visit_all-count rs s

pub tree_visited-count : (f : ℕ → List ℕ) (es s : List ℕ) → tree_visited f 0 0 es s ≡ bump_all_wide (joined f es) s
unfolding tree_visited bump_all_wide
tree_visited-count f [] s = refl
tree_visited-count f (e ∷ es) s =
    tree_visited-count f es (entry_visited 0 0 (f e) s) ∙ ap (bump_all_wide (joined f es)) (entry_visited-count (f e) s) ∙ sym (bump_all_wide_append (f e) (joined f es) s)

-- ---- entries, trees and forests
pub length-entry_visited : (table leaf : ℕ) (rs s : List ℕ) → length (entry_visited table leaf rs s) ≡ length s
unfolding entry_visited
length-entry_visited table leaf rs s = length-visit_all leaf (drop 1 rs) (visit_all table (take 1 rs) s) ∙ length-visit_all table (take 1 rs) s

module _ (f : ℕ → List ℕ) (table leaf : ℕ) where
  pub length-tree_visited : (es s : List ℕ) → length (tree_visited f table leaf es s) ≡ length s
  unfolding tree_visited
  length-tree_visited [] s = refl
  length-tree_visited (e ∷ es) s = length-tree_visited es (entry_visited table leaf (f e) s) ∙ length-entry_visited table leaf (f e) s

  pub tree_visited-none : (s : List ℕ) → tree_visited f table leaf [] s ≡ s
  unfolding tree_visited
  tree_visited-none s = refl

  pub tree_visited_turn : (e : ℕ) (es s : List ℕ) → tree_visited f table leaf (e ∷ es) s ≡ tree_visited f table leaf es (entry_visited table leaf (f e) s)
  unfolding tree_visited
  tree_visited_turn e es s = refl

  pub tree_visited_append : (es ds s : List ℕ) → tree_visited f table leaf (es ++ ds) s ≡ tree_visited f table leaf ds (tree_visited f table leaf es s)
  unfolding tree_visited
  tree_visited_append [] ds s = refl
  tree_visited_append (e ∷ es) ds s = tree_visited_append es ds (entry_visited table leaf (f e) s)

module _ (f es : ℕ → List ℕ) where
  pub length-forest_visited : (n t : ℕ) (s : List ℕ) → length (forest_visited f es t n s) ≡ length s
  unfolding forest_visited
  length-forest_visited zero t s = refl
  length-forest_visited (suc n) t s = length-forest_visited n (suc t) _ ∙ length-tree_visited f (table_kind t) (data_kind t) (es t) s

  -- tree t of n
  pub forest_visited_turn : (t n : ℕ) (s : List ℕ) → t < n
      → forest_visited f es t (n - t) s ≡ forest_visited f es (t + 1) (n - (t + 1)) (tree_visited f (table_kind t) (data_kind t) (es t) s)
  unfolding forest_visited
  forest_visited_turn t n s h =
      let e : n - t ≡ suc (n - (t + 1)) = omega arith in
      let g : suc t ≡ t + 1 = omega arith in
      ap (λ (m : ℕ). forest_visited f es t m s) e ∙ ap (λ (u : ℕ). forest_visited f es u (n - (t + 1)) (tree_visited f (table_kind t) (data_kind t) (es t) s)) g

  pub forest_visited-none : (t n : ℕ) (s : List ℕ) → n ≤ t → forest_visited f es t (n - t) s ≡ s
  unfolding forest_visited
  forest_visited-none t n s h = let e : n - t ≡ 0 = omega arith in rw e
