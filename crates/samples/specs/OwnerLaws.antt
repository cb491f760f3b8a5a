-- What a contour owns. Assumes nothing.
use Rattle.std.specs.Prelude.{◌≡◌, Bool, List, ℕ, suc, ◌+◌, ◌≤◌, ◌<◌, Float, length}
use Rattle.std.proofs.Common.{sym, ap, ◌∙◌, arith}
use Rattle.std.proofs.Math.Decide.{dec_lt}
use Rattle.rules.specs.SamplesAndCache.{sampled}
use Rattle.rules.specs.declared.Point.{Point}
use Rattle.plate_laws.specs.WaitingContours.{after_length}
use Rattle.samples.specs.Owners.{Owned}

-- a flag for each vertex of a contour
pub sampled_length : (vertex : ℕ → Point) (s : Float) (last : ℕ) → length (sampled vertex s last) ≡ suc last
unfolding sampled
sampled_length vertex s last = ap suc (after_length vertex s 0 _ last)

-- it is owned among more vertices too, where the further ones are not its own
pub owned_more : (owner owner' : ℕ → ℕ) (n n' mine first : ℕ) (bs : List Bool) → Owned owner n mine first bs → n ≤ n' →
    ((v : ℕ) → v < n → owner' v ≡ owner v) → ((v : ℕ) → n ≤ v → v < n' → owner' v ≡ mine → ⊥) → Owned owner' n' mine first bs
owned_more owner owner' n n' mine first bs o l e h =
    record {
      fits = omega (arith, o.fits);
      inside = λ i g. e (first + i) (omega (arith, o.fits)) ∙ o.inside i g;
      before = λ v g q. o.before v g (sym (e v (omega (arith, o.fits))) ∙ q);
      after = λ v g u q. late v g u q (dec_lt v n);
    }
  where
    late : (v : ℕ) → first + length bs ≤ v → v < n' → owner' v ≡ mine → Dec (v < n) → ⊥
    late v g u q (yes w) = o.after v g w (sym (e v w) ∙ q)
    late v g u q (no w) = h v (omega arith) u q
