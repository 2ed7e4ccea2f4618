-- The steps of a call that was run in memory, for a store that brings what it changed to a file: which bytes, and in which epoch.
-- Assumes nothing.
use Rattle.std.specs.Prelude.{ℕ, suc, ◌+◌, ◌*◌, ◌/◌, min, ◌≡◌, Bool, true, false, ◌&&◌, ◌||◌, List, [], ◌∷◌, ◌++◌, leb, ltb, eqb, length, get_or, take, if◌then◌else◌, Err, Ok, Result}
use Rattle.choice.specs.Pick.{each}
use Rattle.endian.specs.Big.{splice}
use Rattle.widths.specs.Width.{span}
use Rattle.units.specs.Units.{UnitStore, byte, entry, count}
use Rattle.units.specs.Plan.{Plan, refused, units, plan_units}
use Rattle.qcow2_spec.specs.Flush.{epochs}

-- the bytes of one count or entry, or of a fill as far as it goes on: where they begin, how many they are, and of how many units
pub record Extent : Type 0 where
  pub at : ℕ
  pub len : ℕ
  pub made : ℕ
  pub fills : Bool

-- len bytes of a fill, and those of one unit
abbrev pub filled : (at len : ℕ) → Extent
filled a len = record { at = a; len = len; made = len; fills = true }

abbrev pub whole : (at len : ℕ) → Extent
whole a len = record { at = a; len = len; made = 1; fills = false }

-- one unit before the extents of those after it: a byte joins the fill that goes on from it
unfoldable pub join : UnitStore → List Extent → List Extent
join (byte a v) [] = filled a 1 ∷ []
join (byte a v) (x ∷ xs) = if x.fills && eqb (suc a) x.at then filled a (suc x.len) ∷ xs else filled a 1 ∷ x ∷ xs
join (entry a v) xs = whole a 8 ∷ xs
join (count w a v) xs = whole (a / 8) (span w) ∷ xs

-- the extents of a list of units, in its order
unfoldable pub extents : List UnitStore → List Extent
extents [] = []
extents (u ∷ us) = join u (extents us)

-- four numbers for each: where its bytes begin, how many they are, its units, and its epoch
unfoldable pub rows_of : (epoch : ℕ) → List Extent → List ℕ
rows_of e [] = []
rows_of e (x ∷ xs) = x.at ∷ x.len ∷ x.made ∷ e ∷ rows_of e xs

-- of all epochs from number e on
unfoldable pub step_rows : (e : ℕ) → List (List UnitStore) → List ℕ
step_rows e [] = []
step_rows e (us ∷ es) = rows_of e (extents us) ++ step_rows (suc e) es

-- the steps of a call of plan p on the image s. Epoch 0 clears, 1 makes ready, 2 links, shows or frees; a flush stands where the number changes
unfoldable pub steps : List ℕ → Plan → List ℕ
steps s p = step_rows 0 (epochs s (plan_units p))

-- the answer where m numbers are lent: the call's number, or how many steps were listed
unfoldable pub list_steps : List ℕ → Plan → (m : ℕ) → Result ℕ ℕ
list_steps s (refused k) m = Err k
list_steps s (units us) m = Ok (min (m / 4) (length (steps s (units us)) / 4))

-- rows, of which as many are put in front as there is room for
unfoldable pub rows_put : (out rows : List ℕ) → List ℕ
rows_put out rows = splice out 0 (take (4 * (length out / 4)) rows)

-- what is left in the lent numbers; a refused call has no steps
unfoldable pub steps_into : List ℕ → Plan → List ℕ → List ℕ
steps_into s p out = rows_put out (steps s p)

-- a listing of the steps of plan p on the image s found the numbers `out`, answered r and left `now`
pub record Listing (s : List ℕ) (p : Plan) (out : List ℕ) (r : Result ℕ ℕ) (now : List ℕ) : Type 0 where
  pub answer : r ≡ list_steps s p (length out)
  pub left : now ≡ steps_into s p out

-- ---- bringing them to a file
-- byte x lies in one of the extents
unfoldable pub covers : List Extent → ℕ → Bool
covers [] x = false
covers (y ∷ ys) x = (leb y.at x && ltb x (y.at + y.len)) || covers ys x

-- the extents of several epochs
unfoldable pub extents_in : List (List UnitStore) → List Extent
extents_in [] = []
extents_in (us ∷ es) = extents us ++ extents_in es

-- the file once the bytes of these extents are stored as the finished image has them
unfoldable pub brought : List Extent → (file finished : List ℕ) → List ℕ
brought ys file finished = each (λ x. if covers ys x then get_or finished x 0 else get_or file x 0) 0 (length file)
