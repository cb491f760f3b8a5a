-- A file written block by block. Assumes nothing.
use Rattle.std.specs.Prelude.{◌≡◌, refl, List, ◌++◌, ℕ, zero, suc, ◌+◌, ◌*◌, Float, length, take, drop}
use Rattle.std.proofs.Common.{sym, append_assoc, append-nil, add-zero, arith, length-append, take_at, drop_at, drop-drop}
use Rattle.rules.specs.HandedOver.{over}
use Rattle.file_format.specs.PlateFile.{block, blocks}

-- m entries behind those that were written
pub over_append : {A : Type 0} (old new s : List A) (k m : ℕ) → length old ≡ k → length new ≡ m →
    take k (over old s) ++ (new ++ drop m (drop k (over old s))) ≡ over (old ++ new) s
unfolding over
over_append old new s k m e f =
    let g : length old + m ≡ length (old ++ new) = omega (arith, length-append old new) in
    rw (take_at old (drop (length old) s) k e, drop_at old (drop (length old) s) k e, drop-drop m (length old) s, g)
    (sym (append_assoc old new (drop (length (old ++ new)) s)))

pub blocks_snoc : (n j : ℕ) (xs : List Float) → blocks (n + 1) j xs ≡ blocks n j xs ++ block (j + n) (take 62 (drop (62 * n) xs))
unfolding blocks
blocks_snoc zero j xs = rw (add-zero j) (append-nil (block j (take 62 xs)))
blocks_snoc (suc n) j xs =
    let e : suc n + 1 ≡ suc (n + 1) = omega arith in
    let f : j + suc n ≡ suc j + n = omega arith in
    let g : 62 + 62 * n ≡ 62 * suc n = omega arith in
    rw (e, blocks_snoc n (suc j) (drop 62 xs), drop-drop (62 * n) 62 xs, f, g)
    (sym (append_assoc (block j (take 62 xs)) (blocks n (suc j) (drop 62 xs)) (block (suc j + n) (take 62 (drop (62 * suc n) xs)))))

-- the output slice after i blocks
abbrev pub written_to : List Float → List ℕ → ℕ → List ℕ
written_to xs file i = over (blocks i 0 xs) file

pub none_written : (xs : List Float) (file : List ℕ) → file ≡ written_to xs file 0
unfolding over blocks
none_written xs file = refl
