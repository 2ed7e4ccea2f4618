-- The bench image. Paper 01, "The bench image".
-- Assumes nothing.
use Rattle.std.specs.Prelude.{ℕ, ◌*◌, List, [], ◌∷◌, ◌++◌, replicate}
use Rattle.std.proofs.lemmas.List.Edits.{sets}
use Rattle.endian.specs.Big.{bytes16, bytes32, bytes64}

abbrev pub zeros : ℕ → List ℕ
zeros n = replicate n 0

-- the 104 bytes of a header of version 3 with the L1 table in cluster 3, the refcount table in cluster 1, and these cluster_bits, size and l1_size
unfoldable pub header : (bits size rows : ℕ) → List ℕ
header bits size rows =
    bytes32 0x514649FB ++ bytes32 3 ++ bytes64 0 ++ bytes32 0 ++ bytes32 bits ++ bytes64 size
    ++ bytes32 0 ++ bytes32 rows ++ bytes64 1536 ++ bytes64 512 ++ bytes32 1 ++ bytes32 0 ++ bytes64 0
    ++ bytes64 0 ++ bytes64 0 ++ bytes64 0 ++ bytes32 4 ++ bytes32 104

-- what follows the header: the block in cluster 2, with counts 1 for clusters 0 to 3, and an empty L1 table
unfoldable pub body : List ℕ
body =
    zeros 408
    ++ bytes64 1024 ++ zeros 504
    ++ bytes16 1 ++ bytes16 1 ++ bytes16 1 ++ bytes16 1 ++ zeros 504
    ++ zeros (13 * 512)

-- the bench image with another cluster_bits, size or l1_size
unfoldable pub bench_with : (bits size rows : ℕ) → List ℕ
bench_with bits size rows = header bits size rows ++ body

unfoldable pub bench : List ℕ
bench = bench_with 9 65536 2

-- the bench image with bit 0 of the autoclear field set (bitmaps), in version 3 or another
unfoldable pub marked : (version : ℕ) → List ℕ
marked version = sets (sets bench 4 (bytes32 version)) 88 (bytes64 1)

-- the bench image with counts of another width, whose block starts with these bytes
unfoldable pub widthed : (order : ℕ) → List ℕ → List ℕ
widthed order block = sets (sets bench 96 (bytes32 order)) 1024 block

-- the same counts, 1 for clusters 0 to 3, of one, two, four and eight bits
unfoldable pub one_bit : List ℕ
one_bit = widthed 0 (15 ∷ 0 ∷ 0 ∷ 0 ∷ 0 ∷ 0 ∷ 0 ∷ 0 ∷ [])

unfoldable pub two_bits : List ℕ
two_bits = widthed 1 (85 ∷ 0 ∷ 0 ∷ 0 ∷ 0 ∷ 0 ∷ 0 ∷ 0 ∷ [])

unfoldable pub four_bits : List ℕ
four_bits = widthed 2 (17 ∷ 17 ∷ 0 ∷ 0 ∷ 0 ∷ 0 ∷ 0 ∷ 0 ∷ [])

unfoldable pub eight_bits : List ℕ
eight_bits = widthed 3 (1 ∷ 1 ∷ 1 ∷ 1 ∷ 0 ∷ 0 ∷ 0 ∷ 0 ∷ [])

-- the same of 32 and of 64 bits
unfoldable pub wide_bits : List ℕ
wide_bits = widthed 5 (bytes32 1 ++ bytes32 1 ++ bytes32 1 ++ bytes32 1)

unfoldable pub widest_bits : List ℕ
widest_bits = widthed 6 (bytes64 1 ++ bytes64 1 ++ bytes64 1 ++ bytes64 1)
