-- The words before the first path point, and after one more, which keeps the rules; and the first that breaks one. Assumes nothing.
use Rattle.std.specs.Prelude.{◌≡◌, true, false, ◌||◌, List, [], ℕ, suc, ◌<◌, eqb, get_or, set, Float}
use Rattle.std.proofs.Common.{sym, arith}
use Rattle.std.proofs.lemmas.Bool.{false_from_ne_true}
use Rattle.rules.specs.Marks.{back_step_kind, kind_at, vertices_after}
use Rattle.contour_recovery.specs.ContourRecovery.{landed, consistent}
use Rattle.recovery_laws.specs.FirstFailing.{PassBefore, first_found, pass_more}
use Rattle.recovery_laws.specs.ByKind.{rule_known}
use Rattle.recovery_laws.specs.LandedVertices.{landed_none, landed_back, landed_here}
use Rattle.rules.specs.Tools.{first_failing}
use Rattle.landings.specs.declared.words.Landings.{Landings}
use Rattle.landings.specs.LandedBefore.{count_of, LandedBefore, landed_same}
use Rattle.landings.specs.NextLandings.{read_more}
use Rattle.path_vertices.specs.ReadTo.{ReadTo}

pub read_none : (w : Landings) (path : List Float) (ms : List ℕ) → LandedBefore w (λ v. false) 0 → ReadTo w path ms 0
read_none w path ms h =
    record {
      kept = λ j l. absurd (omega (arith, l));
      vertices = λ j l. absurd (omega (arith, l));
      landings = landed_same w _ _ 0 (λ v. sym (landed_none ms (vertices_after [] ms) v)) h;
    }

pub first_breaking : (w : Landings) (path : List Float) (ms : List ℕ) (n i : ℕ) → ReadTo w path ms i → i < n →
    (consistent path ms (vertices_after [] ms) i ≡ true → ⊥) → i ≡ first_failing (consistent path ms (vertices_after [] ms)) 0 n
unfolding PassBefore
first_breaking w path ms n i read l breaks =
    let test = consistent path ms (vertices_after [] ms) in
    first_found test i n read.kept l (false_from_ne_true (test i) breaks)

-- path point i has the vertex v
module _ (w w' : Landings) (path : List Float) (ms : List ℕ) (i v : ℕ) (inside : i < count_of w) (read : ReadTo w path ms i)
    (keeps : consistent path ms (vertices_after [] ms) i ≡ true) (is : v ≡ get_or (vertices_after [] ms) i 0)
    (new : w'.vertices.now ≡ set w.vertices.now i v) where
  abbrev vs : List ℕ
  vs = vertices_after [] ms

  kept_more : (j : ℕ) → j < suc i → consistent path ms vs j ≡ true
  unfolding PassBefore
  kept_more j l = pass_more (consistent path ms vs) i read.kept keeps j (omega (arith, l))

  vertices_more : (j : ℕ) → j < suc i → get_or w'.vertices.now j 0 ≡ get_or vs j 0
  vertices_more j l = rw new (read_more w.vertices.now vs i v inside is read.vertices j l)

  pub read_back : kind_at ms i ≡ back_step_kind → LandedBefore w' (landed ms vs i) (suc i) → ReadTo w' path ms (suc i)
  read_back e h =
      record { kept = kept_more; vertices = vertices_more; landings = landed_same w' _ _ (suc i) (λ u. sym (landed_back ms vs i u e)) h }

  pub read_landed : (kind_at ms i ≡ back_step_kind → ⊥) → LandedBefore w' (λ u. landed ms vs i u || eqb v u) (suc i) → ReadTo w' path ms (suc i)
  read_landed n h =
      record {
        kept = kept_more;
        vertices = vertices_more;
        landings = landed_same w' _ _ (suc i) (λ u. rw is (sym (landed_here ms vs i u (rule_known path ms vs i keeps) n))) h;
      }
