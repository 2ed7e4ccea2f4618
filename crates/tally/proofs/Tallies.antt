-- One walk over the fixed places and then the trees in order tells of each cluster whether it is shared and how often it is referred to. Assumes nothing.
use Rattle.std.specs.Prelude.{if◌then◌else◌}
use Prim.Native.Nat.{ℕ, zero, suc, ◌+◌, ◌*◌, ◌/◌, ◌%◌, ◌≤◌, ◌<◌, min}
use native.Mathlib.Nat.{zero-add, add-zero}
use native.Mathlib.Decide.{ℕ_discrete}
use native.Mathlib.Omega.{arith}
use mathlib.Core.Path.{◌≡◌, refl, sym, ap, ap₂, ◌∙◌, subst}
use mathlib.Core.Bool.{Bool, true, false}
use mathlib.Core.List.{List, [], ◌∷◌, ◌++◌}
use lib.Dec.{eqb}
use lib.ListN.{length, get_or, set, take, drop, replicate, take-append-drop, length-set, length-replicate}
use lib.Seq.{get_or-set_same, get_or-set_other}
use borrow.Author.Tests.{eq-eqb, ne_eqb}
use Rattle.choice.specs.Pick.{first, each}
use Rattle.choice.proofs.Tests.{true-not-false}
use Rattle.choice.proofs.Runs.{first_passed}
use Rattle.endian.specs.Big.{be16, bytes16}
use Rattle.tally.specs.Tally.{run, joined, occurrences, figures, wide}
use Rattle.tally.specs.Roles.{bad_state, reached, reach_all, tree_reached, forest_reached}
use Rattle.tally.specs.States.{step, bad_mark, visited, visit_all, entry_visited, tree_visited, forest_visited, fixed_kind, table_kind, data_kind, unpacked}
use Rattle.tally.proofs.Occurs.{occ_append}
use Rattle.tally.proofs.Steps.{step_small}
use Rattle.tally.proofs.States.{length-visited, length-visit_all, length-tree_visited}
use Rattle.tally.proofs.Roles.{state_of}
use Rattle.tally.proofs.Marks.{Alike, none, some, bad, mark_count, alike_later, alike_step}

-- a store of two bytes at cluster c, and what stands at cluster k then
pub be16-set : (s : List ℕ) (c k v : ℕ) → 2 * k + 2 ≤ length s → v < 65536 → be16 (set (set s (2 * c) (v / 256 % 256)) (suc (2 * c)) (v % 256)) (2 * k) ≡ (if eqb c k then v else be16 s (2 * k))
unfolding be16
be16-set s c k v h l = go (ℕ_discrete c k)
  where
    one : 2 * k + 1 ≡ suc (2 * k)
    one = omega arith

    go : Dec (c ≡ k)
        → get_or (set (set s (2 * c) (v / 256 % 256)) (suc (2 * c)) (v % 256)) (2 * k) 0 * 256 + get_or (set (set s (2 * c) (v / 256 % 256)) (suc (2 * c)) (v % 256)) (2 * k + 1) 0
        ≡ (if eqb c k then v else (get_or s (2 * k) 0 * 256 + get_or s (2 * k + 1) 0))
    go (yes e) =
        let a : get_or (set (set s (2 * k) (v / 256 % 256)) (suc (2 * k)) (v % 256)) (2 * k) 0 ≡ v / 256 % 256 =
        get_or-set_other (set s (2 * k) (v / 256 % 256)) (suc (2 * k)) (2 * k) (v % 256) 0 (λ z. omega (arith, z)) ∙ get_or-set_same s (2 * k) (v / 256 % 256) 0 (omega arith) in
        let b : get_or (set (set s (2 * k) (v / 256 % 256)) (suc (2 * k)) (v % 256)) (suc (2 * k)) 0 ≡ v % 256 =
        get_or-set_same (set s (2 * k) (v / 256 % 256)) (suc (2 * k)) (v % 256) 0 (omega (arith, length-set s (2 * k) (v / 256 % 256))) in
        rw (e, eq-eqb k k refl, one, a, b) (omega arith)
    go (no d) =
        let a : (i : ℕ) → (i ≡ 2 * c → ⊥) → (i ≡ suc (2 * c) → ⊥) → get_or (set (set s (2 * c) (v / 256 % 256)) (suc (2 * c)) (v % 256)) i 0 ≡ get_or s i 0 =
        λ i p q. get_or-set_other (set s (2 * c) (v / 256 % 256)) (suc (2 * c)) i (v % 256) 0 q ∙ get_or-set_other s (2 * c) i (v / 256 % 256) 0 p in
        rw (ne_eqb c k d, a (2 * k) (λ z. d (omega (arith, z))) (λ z. omega (arith, z)), a (2 * k + 1) (λ z. omega (arith, z)) (λ z. d (omega (arith, z)))) refl

pub visited-at : (kind : ℕ) (s : List ℕ) (c k : ℕ) → kind < 512 → 2 * k + 2 ≤ length s
    → be16 (visited kind s c) (2 * k) ≡ (if eqb c k then step kind (be16 s (2 * k)) else be16 s (2 * k))
unfolding visited bytes16
visited-at kind s c k l h = be16-set s c k (step kind (be16 s (2 * c))) h (step_small kind (be16 s (2 * c)) l) ∙ go (ℕ_discrete c k)
  where
    go : Dec (c ≡ k) → (if eqb c k then step kind (be16 s (2 * c)) else be16 s (2 * k)) ≡ (if eqb c k then step kind (be16 s (2 * k)) else be16 s (2 * k))
    go (yes e) = rw e refl
    go (no d) = rw (ne_eqb c k d) refl

module _ (k : ℕ) where
  -- the clusters of a list
  alike_all : (r τ : ℕ) → 1 ≤ r → r ≤ 3 → τ ≤ 100 → (l s : List ℕ) (state n : ℕ) → 2 * k + 2 ≤ length s → Alike τ state (be16 s (2 * k)) n
      → Alike τ (reach_all r τ k l state) (be16 (visit_all (r + 4 * τ) l s) (2 * k)) (occurrences k l + n)
  unfolding reach_all visit_all occurrences
  alike_all r τ low high few [] s state n h a = subst (λ (m : ℕ). Alike τ state (be16 s (2 * k)) m) (sym (zero-add n)) a
  alike_all r τ low high few (c ∷ cs) s state n h a =
      go (eqb c k) (visited-at (r + 4 * τ) s c k (omega arith) h) (λ q m. alike_all r τ low high few cs (visited (r + 4 * τ) s c) q m (omega (arith, h, length-visited (r + 4 * τ) s c)))
    where
      go : (b : Bool) → be16 (visited (r + 4 * τ) s c) (2 * k) ≡ (if b then step (r + 4 * τ) (be16 s (2 * k)) else be16 s (2 * k))
          → ((q m : ℕ) → Alike τ q (be16 (visited (r + 4 * τ) s c) (2 * k)) m → Alike τ (reach_all r τ k cs q) (be16 (visit_all (r + 4 * τ) cs (visited (r + 4 * τ) s c)) (2 * k)) (occurrences k cs + m))
          → Alike τ (reach_all r τ k cs (if b then reached r τ state else state)) (be16 (visit_all (r + 4 * τ) cs (visited (r + 4 * τ) s c)) (2 * k)) ((if b then 1 else 0) + occurrences k cs + n)
      go true e w =
          subst (λ (m : ℕ). Alike τ (reach_all r τ k cs (reached r τ state)) (be16 (visit_all (r + 4 * τ) cs (visited (r + 4 * τ) s c)) (2 * k)) m) (omega arith)
          (w (reached r τ state) (suc n) (subst (λ (x : ℕ). Alike τ (reached r τ state) x (suc n)) (sym e) (alike_step r τ low high few state (be16 s (2 * k)) n a)))
      go false e w =
          subst (λ (m : ℕ). Alike τ (reach_all r τ k cs state) (be16 (visit_all (r + 4 * τ) cs (visited (r + 4 * τ) s c)) (2 * k)) m) (omega arith)
          (w state n (subst (λ (x : ℕ). Alike τ state x n) (sym e) a))

  module _ (f : ℕ → List ℕ) where
    -- a tree's entries
    alike_tree : (t : ℕ) → t < 100 → (es s : List ℕ) (state n : ℕ) → 2 * k + 2 ≤ length s → Alike (suc t) state (be16 s (2 * k)) n
        → Alike (suc t) (tree_reached f (suc t) k es state) (be16 (tree_visited f (table_kind t) (data_kind t) es s) (2 * k)) (occurrences k (joined f es) + n)
    unfolding tree_reached tree_visited entry_visited occurrences
    alike_tree t l [] s state n h a = subst (λ (m : ℕ). Alike (suc t) state (be16 s (2 * k)) m) (sym (zero-add n)) a
    alike_tree t l (e ∷ es) s state n h a =
        let s₁ : List ℕ = visit_all (table_kind t) (take 1 (f e)) s in
        let a₁ = alike_all 2 (suc t) (omega arith) (omega arith) (omega arith) (take 1 (f e)) s state n h a in
        let a₂ = alike_all 3 (suc t) (omega arith) (omega arith) (omega arith) (drop 1 (f e)) s₁ (reach_all 2 (suc t) k (take 1 (f e)) state) (occurrences k (take 1 (f e)) + n) (omega (arith, h, length-visit_all (table_kind t) (take 1 (f e)) s)) a₁ in
        let s₂ : List ℕ = visit_all (data_kind t) (drop 1 (f e)) s₁ in
        let z : List ℕ = tree_visited f (table_kind t) (data_kind t) es s₂ in
        let st : ℕ = tree_reached f (suc t) k es (reach_all 3 (suc t) k (drop 1 (f e)) (reach_all 2 (suc t) k (take 1 (f e)) state)) in
        let both : occurrences k (f e) ≡ occurrences k (take 1 (f e)) + occurrences k (drop 1 (f e)) = ap (occurrences k) (sym (take-append-drop 1 (f e))) ∙ occ_append k (take 1 (f e)) (drop 1 (f e)) in
        subst (λ (m : ℕ). Alike (suc t) st (be16 z (2 * k)) m) (omega (arith, both, occ_append k (f e) (joined f es)))
        (alike_tree t l es s₂ _ _ (omega (arith, h, length-visit_all (table_kind t) (take 1 (f e)) s, length-visit_all (data_kind t) (drop 1 (f e)) s₁)) a₂)

    -- n trees from tree t on
    alike_forest : (es : ℕ → List ℕ) (n t : ℕ) → t + n ≤ 100 → (s : List ℕ) (state m : ℕ) → 2 * k + 2 ≤ length s → Alike t state (be16 s (2 * k)) m
        → Alike (t + n) (forest_reached f es k t n state) (be16 (forest_visited f es t n s) (2 * k)) (occurrences k (joined (λ u. joined f (es u)) (run t n)) + m)
    unfolding forest_reached forest_visited run occurrences
    alike_forest es zero t l s state m h a =
        subst (λ (u : ℕ). Alike u state (be16 s (2 * k)) (0 + m)) (sym (add-zero t)) (subst (λ (u : ℕ). Alike t state (be16 s (2 * k)) u) (sym (zero-add m)) a)
    alike_forest es (suc n) t l s state m h a =
        let s₁ : List ℕ = tree_visited f (table_kind t) (data_kind t) (es t) s in
        let st : ℕ = forest_reached f es k (suc t) n (tree_reached f (suc t) k (es t) state) in
        let x : ℕ = be16 (forest_visited f es (suc t) n s₁) (2 * k) in
        let a₁ = alike_tree t (omega arith) (es t) s state m h (alike_later t state (be16 s (2 * k)) m a) in
        let g : suc t + n ≡ t + suc n = omega arith in
        let o : List ℕ = joined (λ u. joined f (es u)) (run (suc t) n) in
        subst (λ (u : ℕ). Alike u st x (occurrences k (joined f (es t) ++ o) + m)) g
        (subst (λ (u : ℕ). Alike (suc t + n) st x u) (omega (arith, occ_append k (joined f (es t)) o))
        (alike_forest es n (suc t) (omega arith) s₁ _ _ (omega (arith, h, length-tree_visited f (table_kind t) (data_kind t) (es t) s)) a₁))

each-figures : (g : ℕ → ℕ) (rs : List ℕ) (i m : ℕ) → ((k : ℕ) → i ≤ k → k < i + m → g k ≡ min 65535 (occurrences k rs)) → each g i m ≡ figures 65535 rs i m
unfolding figures
each-figures g rs i zero h = refl
each-figures g rs i (suc m) h = ap₂ (λ (a : ℕ) (l : List ℕ). a ∷ l) (h i (omega arith) (omega arith)) (each-figures g rs (suc i) m (λ k a b. h k (omega arith) (omega arith)))

-- ---- a cleared scratch of n clusters once the fixed places and then T trees are walked
module _ (f es : ℕ → List ℕ) (fixed : List ℕ) (T n : ℕ) where
  abbrev pub walked : List ℕ
  walked = forest_visited f es 0 T (visit_all fixed_kind fixed (replicate (2 * n) 0))

  abbrev pub all_refs : List ℕ
  all_refs = fixed ++ joined (λ t. joined f (es t)) (run 0 T)

  cleared : (m i : ℕ) → ◌≡◌ {A = ℕ} (get_or (replicate m 0) i 0) 0
  cleared zero i = refl
  cleared (suc m) zero = refl
  cleared (suc m) (suc i) = cleared m i

  module _ (few : T ≤ 100) (k : ℕ) (l : k < n) where
    alike : Alike T (state_of f es k fixed T) (be16 walked (2 * k)) (occurrences k all_refs)
    unfolding be16
    alike =
        let z : List ℕ = replicate (2 * n) 0 in
        let len : length z ≡ 2 * n = length-replicate {A = ℕ} (2 * n) 0 in
        let b : be16 z (2 * k) ≡ 0 = omega (arith, cleared (2 * n) (2 * k), cleared (2 * n) (2 * k + 1)) in
        let a₁ = alike_all k 1 0 (omega arith) (omega arith) (omega arith) fixed z 0 0 (omega arith) (none refl b refl) in
        let a₂ = alike_forest k f es T 0 (omega arith) (visit_all fixed_kind fixed z) _ _ (omega (arith, len, length-visit_all fixed_kind fixed z)) a₁ in
        subst (λ (u : ℕ). Alike u (state_of f es k fixed T) (be16 walked (2 * k)) (occurrences k all_refs)) (zero-add T)
        (subst (λ (u : ℕ). Alike (0 + T) (state_of f es k fixed T) (be16 walked (2 * k)) u) (omega (arith, occ_append k fixed (joined (λ t. joined f (es t)) (run 0 T)))) a₂)

    -- its number is bad exactly where its state is
    pub tallied_bad : bad_mark (be16 walked (2 * k)) ≡ eqb (state_of f es k fixed T) bad_state
    unfolding bad_mark
    tallied_bad = go alike
      where
        go : Alike T (state_of f es k fixed T) (be16 walked (2 * k)) (occurrences k all_refs) → bad_mark (be16 walked (2 * k)) ≡ eqb (state_of f es k fixed T) bad_state
        go (none e g h) = rw (e, g) refl
        go (some r u a b c e g h i) =
            rw (ne_eqb (be16 walked (2 * k)) 0 (λ z. omega (arith, g, z, a)), ne_eqb (be16 walked (2 * k) % 4) 0 (λ z. omega (arith, g, z, a, b)), ne_eqb (state_of f es k fixed T) 512 (λ z. omega (arith, e, z, a, b, c, few))) refl
        go (bad e g) = rw (e, g) refl

    -- and otherwise the number tells how often it is referred to
    pub tallied_count : bad_mark (be16 walked (2 * k)) ≡ false → be16 walked (2 * k) / 512 ≡ min 65535 (occurrences k all_refs)
    unfolding bad_mark
    tallied_count d = go alike
      where
        go : Alike T (state_of f es k fixed T) (be16 walked (2 * k)) (occurrences k all_refs) → be16 walked (2 * k) / 512 ≡ min 65535 (occurrences k all_refs)
        go (none e g h) = omega (arith, g, h)
        go (some r u a b c e g h i) = ap (λ (y : ℕ). y / 512) g ∙ mark_count r u b (occurrences k all_refs) (omega (arith, c, few)) ∙ omega (arith, i, c, few)
        go (bad e g) = absurd (true-not-false {b = bad_mark 4} refl (sym (ap bad_mark g) ∙ d))

  -- where no cluster is bad, the counts alone are the figures
  pub unpacked-figures : T ≤ 100 → n ≤ first (λ k. bad_mark (be16 walked (2 * k))) 0 n → unpacked walked n ≡ wide (figures 65535 all_refs 0 n)
  unfolding unpacked
  unpacked-figures few h =
      ap wide
      (each-figures (λ k. be16 walked (2 * k) / 512) all_refs 0 n
      (λ k a b. tallied_count few k (omega arith) (first_passed (λ j. bad_mark (be16 walked (2 * j))) 0 n k (omega arith) (omega arith) (omega arith))))
