-- A list in chunks of one length. Assumes nothing.
use Rattle.std.specs.Prelude.{◌≡◌, List, ℕ, zero, suc, ◌+◌, ◌*◌, ◌/◌, ◌<◌, length, get_or, take, drop}
use Rattle.std.proofs.Common.{◌∙◌, arith, drop-drop}
use Rattle.std.specs.Simd.{first_chunks}

pub chunk_at : {A : Type 0} (n k i : ℕ) (xs : List A) (d : List A) → i < k → get_or (first_chunks n k xs) i d ≡ take n (drop (n * i) xs)
chunk_at n zero i xs d h = absurd (omega arith)
chunk_at n (suc k) zero xs d h = let z : n * 0 ≡ 0 = omega arith in rw z
chunk_at n (suc k) (suc i) xs d h =
    let e : n + n * i ≡ n * suc i = omega arith in
    chunk_at n k i (drop n xs) d (omega arith) ∙ rw (drop-drop (n * i) n xs, e)

-- of all the whole chunks
pub whole_chunk_at : {A : Type 0} (n i : ℕ) (xs : List A) {cs : List (List A)} (d : List A) → cs ≡ first_chunks n (length xs / n) xs → length cs ≡ length xs / n → i < length cs →
    get_or cs i d ≡ take n (drop (n * i) xs)
whole_chunk_at n i xs d e l h = rw e (chunk_at n (length xs / n) i xs d (omega (arith, l, h)))
