-- The number by which an index finds the bucket of a text, or of two.
use Rattle.std.specs.Prelude.{ℕ, ◌*◌, ◌%◌, ◌^◌, Bool, false, List, Option, Some, None, not, ◌&&◌, ◌==◌, length, fold, bit_xor}
use Rattle.std.specs.Hash.FoldHasher as folding
use Rattle.load_memory.specs.Keys.{fold_text}
use Rattle.load_memory.specs.Rows.{RowOf, cell_of}
use Rattle.load_memory.specs.declared.key.KeyMode.{KeyMode}
use Rattle.load_memory.specs.declared.key.KeyMode.TheVariants.{Exact, FoldAscii}

-- one byte more of the hash FNV-1a
abbrev pub mix : ℕ → ℕ → ℕ
mix hash byte = (bit_xor hash byte * 0x0000_0100_0000_01b3) % 2 ^ 64

-- the hash of a text as its mode compares it: of the whole text, or of byte after byte
unfoldable pub text_hash : KeyMode → List ℕ → ℕ
text_hash Exact folded = folding.finish (folding.write folding.initial folded)
text_hash FoldAscii folded = fold mix 0xcbf2_9ce4_8422_2325 folded

-- the bucket of a text, one of `buckets`
abbrev pub bucket_of : KeyMode → ℕ → List ℕ → ℕ
bucket_of mode buckets folded = text_hash mode folded % buckets

abbrev pub cell_in : KeyMode → ℕ → ℕ → Option (List ℕ) → Bool
cell_in mode buckets bucket None = false
cell_in mode buckets bucket (Some field) =
    not (length field == 0) && (bucket_of mode buckets (fold_text mode field) == bucket)

-- one number of the hashes of two texts, in which their order counts
abbrev pub joined_hash : ℕ → ℕ → ℕ
joined_hash one two = bit_xor ((one * 0x0000_0100_0000_01b3) % 2 ^ 64) two

-- the bucket of two texts, one of `buckets`
abbrev pub pair_bucket_of : KeyMode → ℕ → List ℕ → List ℕ → ℕ
pair_bucket_of mode buckets s t = joined_hash (text_hash mode s) (text_hash mode t) % buckets

-- the row's column isn't null and its text is of this bucket
abbrev pub in_bucket : KeyMode → List ℕ → ℕ → ℕ → RowOf → Bool
in_bucket mode column buckets bucket row = cell_in mode buckets bucket (cell_of row column)

abbrev pub cells_in : KeyMode → ℕ → ℕ → Option (List ℕ) → Option (List ℕ) → Bool
cells_in mode buckets bucket None other = false
cells_in mode buckets bucket (Some s) None = false
cells_in mode buckets bucket (Some s) (Some t) =
    (not (length s == 0) && not (length t == 0))
    && (pair_bucket_of mode buckets (fold_text mode s) (fold_text mode t) == bucket)

-- neither of the row's two columns is null and their texts are of this bucket
abbrev pub pair_in_bucket : KeyMode → List ℕ → List ℕ → ℕ → ℕ → RowOf → Bool
pair_in_bucket mode column second buckets bucket row =
    cells_in mode buckets bucket (cell_of row column) (cell_of row second)
