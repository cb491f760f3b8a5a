-- What is known of a path whose path points all keep the rules of marks, by the words after them. Assumes nothing.
use Rattle.std.specs.Prelude.{◌≡◌, refl, Bool, true, List, [], ℕ, ◌/◌, ◌<◌, ◌≤◌, Float, length, get_or}
use Rattle.std.proofs.Common.{sym, subst, ap, ◌∙◌, arith}
use Rattle.plate_laws.specs.Rows.{Passed}
use Rattle.rules.specs.Limits.{highest_vertex, most_points}
use Rattle.rules.specs.Marks.{vertices_after}
use Rattle.landings.specs.declared.words.Landings.{Landings}
use Rattle.landings.specs.LandedBefore.{LandedBefore, landed_same}
use Rattle.path_vertices.specs.ReadTo.{ReadTo}
use Rattle.contour_recovery.specs.ContourRecovery.{landed, consistent, vertex_count}
use Rattle.recovery_laws.specs.AllLanded.{all_landed}
use Rattle.recovery_laws.specs.LandedVertices.{count_small}
use Rattle.recovery_laws.specs.Vertices.{vertices_length}
use Rattle.recovery_parts.specs.PointPlaces.{LandedOnce}
use Rattle.recovery.specs.Parts.{mark_rows}
use Rattle.recovery_laws.specs.FirstFailing.{PassBefore}
use Rattle.recovery.specs.Rows.{SoundPath, marks_pass}
use Rattle.recovery.specs.VertexPlaces.{landed_once, kept_within}

module _ (path : List Float) (ms : List ℕ) (size : ℕ) (w : Landings) where
  abbrev n : ℕ
  n = length path / 2

  abbrev vs : List ℕ
  vs = w.vertices.now

  abbrev m : ℕ
  m = vertex_count ms vs (length vs)

  abbrev LandedOnAll : ℕ → Bool
  LandedOnAll = landed ms vs (length vs)

  module _ (sound : SoundPath path ms size) (same : vs ≡ vertices_after [] ms) (read : ReadTo w path ms n) where
    pub marked : length (vertices_after [] ms) ≡ n
    marked = vertices_length ms n (omega (arith, sound.even, sound.marks))

    pub long : length vs ≡ n
    long = ap length same ∙ marked

    pub kept : (i : ℕ) → i < length vs → consistent path ms vs i ≡ true
    kept i h = rw same (read.kept i (omega (arith, h, long)))

    pub within : (j : ℕ) → get_or vs j 0 ≤ highest_vertex
    within = kept_within path ms vs kept

    pub rows_kept : Passed (mark_rows path ms)
    unfolding PassBefore
    rows_kept = marks_pass path ms read.kept

    pub holds : LandedBefore w LandedOnAll (length vs)
    holds =
        let now : LandedBefore w LandedOnAll n = landed_same w (landed ms (vertices_after [] ms) n) LandedOnAll n (λ v. rw (long, same) refl) read.landings in
        subst (λ k. LandedBefore w LandedOnAll k) (sym long) now

    -- each of the first m vertices was landed on
    module _ (all : PassBefore LandedOnAll m) where
      pub few : m ≤ length vs
      unfolding PassBefore
      few = all_landed ms vs (length vs) m all

      pub short : m ≤ most_points
      short = count_small ms vs (length vs) (λ j l. within j)

      pub once : LandedOnce ms vs m
      once = landed_once ms vs path kept all
