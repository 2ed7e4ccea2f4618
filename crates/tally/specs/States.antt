-- A scratch in which two bytes of each cluster hold, as one number, how it was reached last and how often: role + 4 * tree + 512 * count. One walk then
-- tells both its references and whether it is shared (`Roles`). Nothing here knows an image format.
-- Assumes nothing.
use Rattle.std.specs.Prelude.{ℕ, zero, suc, ◌+◌, ◌*◌, ◌/◌, ◌%◌, min, Bool, true, false, not, ◌&&◌, List, [], ◌∷◌, ltb, eqb, take, drop, if◌then◌else◌}
use Rattle.std.proofs.lemmas.List.Edits.{sets}
use Rattle.choice.specs.Pick.{each}
use Rattle.endian.specs.Big.{be16, bytes16}
use Rattle.tally.specs.Tally.{wide}

-- kinds of a visit: 0 counts alone, any other is role + 4 * tree; fixed places are tree 0's, and L1 table t is tree t + 1
abbrev pub fixed_kind : ℕ
fixed_kind = 1

abbrev pub table_kind : ℕ → ℕ
table_kind t = 2 + 4 * suc t

abbrev pub data_kind : ℕ → ℕ
data_kind t = 3 + 4 * suc t

-- a cluster's number once it is visited; 4 where it was reached in another role, or by this tree, or too often
unfoldable pub step : (kind x : ℕ) → ℕ
step kind x =
    if eqb kind 0 then min 65535 (x + 1) else
    if eqb x 0 then kind + 512 else
    if eqb (x % 4) (kind % 4) && not (eqb (x / 4 % 128) (kind / 4)) && ltb x 65024 then kind + 512 * (x / 512 + 1) else
    4

-- the cluster is shared
unfoldable pub bad_mark : ℕ → Bool
bad_mark x = not (eqb x 0) && eqb (x % 4) 0

-- ---- a scratch once clusters are visited
unfoldable pub visited : (kind : ℕ) → List ℕ → ℕ → List ℕ
visited kind s c = sets s (2 * c) (bytes16 (step kind (be16 s (2 * c))))

-- the clusters of a list
unfoldable pub visit_all : (kind : ℕ) → List ℕ → List ℕ → List ℕ
visit_all kind [] s = s
visit_all kind (c ∷ cs) s = visit_all kind cs (visited kind s c)

-- what an entry refers to: the first is a table, the others are data
unfoldable pub entry_visited : (table leaf : ℕ) → (refs s : List ℕ) → List ℕ
entry_visited table leaf refs s = visit_all leaf (drop 1 refs) (visit_all table (take 1 refs) s)

-- a tree, of which entry e refers to f e
unfoldable pub tree_visited : (f : ℕ → List ℕ) (table leaf : ℕ) → (es s : List ℕ) → List ℕ
tree_visited f table leaf [] s = s
tree_visited f table leaf (e ∷ es) s = tree_visited f table leaf es (entry_visited table leaf (f e) s)

-- n trees from number t on, of which tree u has the entries es u
unfoldable pub forest_visited : (f es : ℕ → List ℕ) (t n : ℕ) → List ℕ → List ℕ
forest_visited f es t zero s = s
forest_visited f es t (suc n) s = forest_visited f es (suc t) n (tree_visited f (table_kind t) (data_kind t) (es t) s)

-- ---- what a scratch says
-- what a search looks for: two references or more where they are counted alone, or a shared cluster
abbrev pub flag : (alone : Bool) → ℕ → Bool
flag true x = ltb 1 x
flag false x = bad_mark x

abbrev pub flag_at : (alone : Bool) → List ℕ → ℕ → Bool
flag_at alone s k = flag alone (be16 s (2 * k))

-- the numbers of the k clusters from i on
abbrev pub twos : List ℕ → (i k : ℕ) → List ℕ
twos s i k = each (λ j. be16 s (2 * j)) i k

-- the scratch of n clusters with their counts alone
unfoldable pub unpacked : List ℕ → (n : ℕ) → List ℕ
unpacked s n = wide (each (λ k. be16 s (2 * k) / 512) 0 n)
