-- The rows of a write's or a discard's own units, with the epochs of those that link, show or free what the others made ready.
-- Assumes nothing.
use Rattle.std.specs.Prelude.{ℕ, ◌+◌, ◌/◌, ◌^◌, List, [], ◌∷◌, ◌++◌}
use Rattle.widths.specs.Width.{span}
use Rattle.qcow2_put.specs.declared.linking.Places.{Places}
use Rattle.qcow2_jobs.specs.declared.finding.Job.{Job}
use Rattle.qcow2_jobs.specs.declared.finding.Job.TheVariants.{Bytes, Marked, New, Table}
use Rattle.qcow2_jobs.specs.declared.releasing.Freed.{Freed}
use Rattle.qcow2_jobs.specs.declared.releasing.Freed.TheVariants.{Entry, Both}

-- the row of a count in an epoch, that of an entry, and that of n bytes that are filled
abbrev pub count_row : (order at e : ℕ) → List ℕ
count_row o a e = a / 8 ∷ span (2 ^ o) ∷ 1 ∷ e ∷ []

abbrev pub entry_row : (at e : ℕ) → List ℕ
entry_row a e = a ∷ 8 ∷ 1 ∷ e ∷ []

abbrev pub fill_row : (at n e : ℕ) → List ℕ
fill_row a n e = a ∷ n ∷ n ∷ e ∷ []

-- a new table and a new cluster of c bytes: the entry that links them is of the epoch `last`
abbrev pub table_rows : (last : ℕ) → Places → (c : ℕ) → List ℕ
table_rows last p c =
    count_row p.order p.tablecount 1 ++ fill_row p.table c 1 ++ count_row p.order p.datacount 1 ++ fill_row p.place c 1 ++ entry_row p.slot 1 ++ entry_row p.link last

-- a write of len bytes from byte o of a cluster of c bytes on
abbrev pub job_rows : (last : ℕ) → Job → (c o len : ℕ) → List ℕ
job_rows last (Bytes p) c o len = fill_row (p + o) len 1
job_rows last (Marked a p) c o len = fill_row p c 1 ++ entry_row a last
job_rows last (New m r n a p) c o len = count_row r n 1 ++ fill_row p c 1 ++ entry_row a last
job_rows last (Table p) c o len = table_rows last p c

-- a discard, by the epochs of an entry alone, of an entry before its count, and of that
abbrev pub freed_rows : (alone first second : ℕ) → Freed → List ℕ
freed_rows alone first second (Entry a x) = entry_row a alone
freed_rows alone first second (Both a x r k v) = entry_row a first ++ count_row r k second
