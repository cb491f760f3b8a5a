-- What the whole call answers, and what it leaves of the slices, by the answers of its parts. Assumes nothing.
use Rattle.std.specs.Prelude.{◌≡◌, refl, true, false, Bool, List, [], ◌∷◌, ℕ, ◌/◌, Float, length, Err}
use Rattle.std.proofs.Common.{sym, ◌∙◌}
use Rattle.rules.specs.Tools.{pick}
use Rattle.rules.specs.HandedOver.{Answer, gives, refuses, RefusalRow, refused_by, no_room, written, frees_work, WorkKept}
use Rattle.rules.specs.declared.Recovered.{Recovered}
use Rattle.rules.specs.declared.RecoveryRefusal.{RecoveryRefusal}
use Rattle.rules.specs.declared.RecoveryRefusal.TheVariants.{PathMiscounted, PathOffThePlate, PathWorkShort, MarksInconsistent, VertexMissing, NoRoom}
use Rattle.rules.specs.Marks.{vertices_after}
use Rattle.plate_laws.specs.Rows.{Passed, rows_pass}
use Rattle.slices.specs.Outcome.{work_same}
use Rattle.contour_recovery.specs.ContourRecovery.{vertex_count, recovered_points, recovered_lengths, marks_inconsistent, vertex_missing, RecoveryOutcome, recovery_call, recovery_answer}
use Rattle.recovery_parts.specs.Outcome.{roomy}
use Rattle.recovery.specs.Parts.{path_rows, mark_rows, vertex_rows}

-- no refusal alters an output slice
same_written : {B : Type 0} (r : RecoveryRefusal) (new slice : List B) → slice ≡ written (recovery_answer (Err r)) new slice
unfolding recovery_answer written
same_written PathMiscounted new slice = refl
same_written (PathOffThePlate place) new slice = refl
same_written PathWorkShort new slice = refl
same_written (MarksInconsistent place) new slice = refl
same_written (VertexMissing place) new slice = refl
same_written NoRoom new slice = refl

-- refusals that free the work slice
abbrev Frees : Answer Recovered → Type 0
Frees a = (before now : List ℕ) → WorkKept a before now

frees_row : (b : Bool) (number place : ℕ) (later : Answer Recovered) → frees_work number ≡ true → Frees later → Frees (pick b (refuses number place) later)
unfolding pick WorkKept
frees_row true number place later f l before now = rw f (λ t. absurd t)
frees_row false number place later f l before now = l before now

module _ (path : List Float) (ms : List ℕ) (points : List Float) (lengths : List ℕ) (w : ℕ) where
  abbrev call : RecoveryOutcome
  call = recovery_call path ms points lengths w

  abbrev vs : List ℕ
  vs = vertices_after [] ms

  abbrev n : ℕ
  n = length path / 2

  abbrev m : ℕ
  m = vertex_count ms vs n

  abbrev xs : List Float
  xs = recovered_points path ms vs n m

  abbrev ns : List ℕ
  ns = recovered_lengths ms m

  abbrev room_rows : List RefusalRow
  room_rows = no_room (length points) (length xs) ∷ no_room (length lengths) (length ns) ∷ []

  abbrev given : Answer Recovered
  given = gives (record { points = m; contours = length ns })

  -- an answer, the two output slices afterwards, and the work slice before and afterwards
  abbrev pub MetRecovery : Answer Recovered → List Float → List ℕ → List ℕ → List ℕ → Type 0
  MetRecovery a ps ls before now = (a ≡ call.answer) × (ps ≡ call.points) × (ls ≡ call.lengths) × WorkKept call.answer before now

  -- the rows behind those of the path
  abbrev behind : Answer Recovered
  behind = refused_by (mark_rows path ms) (refused_by (vertex_missing ms vs n ∷ []) (refused_by room_rows given))

  parts : call.answer ≡ refused_by (path_rows path ms w) behind
  unfolding recovery_call refused_by
  parts = refl

  refused : (r : RecoveryRefusal) → recovery_answer (Err r) ≡ call.answer → (before now : List ℕ) → WorkKept call.answer before now →
      MetRecovery (recovery_answer (Err r)) points lengths before now
  unfolding recovery_call
  refused r e before now k = (e, rw (← e) (same_written r xs points), rw (← e) (same_written r ns lengths), k)

  pub met_unfit : (r : RecoveryRefusal) → ((later : Answer Recovered) → recovery_answer (Err r) ≡ refused_by (path_rows path ms w) later) →
      (work : List ℕ) → MetRecovery (recovery_answer (Err r)) points lengths work work
  met_unfit r e work = refused r (e behind ∙ sym parts) work work (work_same call.answer work)

  module _ (passed : Passed (path_rows path ms w)) where
    after_path : call.answer ≡ behind
    after_path = parts ∙ rows_pass (path_rows path ms w) passed behind

    frees : Frees behind
    unfolding refused_by marks_inconsistent vertex_missing no_room frees_work WorkKept
    frees =
        frees_row _ 10 _ _ refl
        (frees_row _ 11 _ _ refl
        (frees_row _ 6 _ _ refl
        (frees_row _ 6 _ _ refl (λ before now. tt))))

    frees_call : Frees call.answer
    frees_call before now = rw after_path (frees before now)

    pub met_inconsistent : (r : RecoveryRefusal) → ((later : Answer Recovered) → recovery_answer (Err r) ≡ refused_by (mark_rows path ms) later) →
        (before now : List ℕ) → MetRecovery (recovery_answer (Err r)) points lengths before now
    met_inconsistent r e before now = refused r (e _ ∙ sym after_path) before now (frees_call before now)

    module _ (whole : length vs ≡ n) (kept : Passed (mark_rows path ms)) where
      after_marks : call.answer ≡ refused_by (vertex_rows ms vs) (refused_by room_rows given)
      after_marks = after_path ∙ rows_pass (mark_rows path ms) kept _ ∙ rw whole refl

      pub met_missing : (r : RecoveryRefusal) → ((later : Answer Recovered) → recovery_answer (Err r) ≡ refused_by (vertex_rows ms vs) later) →
          (before now : List ℕ) → MetRecovery (recovery_answer (Err r)) points lengths before now
      met_missing r e before now = refused r (e _ ∙ sym after_marks) before now (frees_call before now)

      -- `us` are the vertices that were read, and k is how many were landed on
      pub met_written : Passed (vertex_rows ms vs) → (us : List ℕ) → us ≡ vs → (k : ℕ) → k ≡ m →
          let r = roomy path ms us (length us) k (length points) (length lengths) in
          (a : Answer Recovered) (ps : List Float) (ls : List ℕ) →
          a ≡ r → ps ≡ written r (recovered_points path ms us (length us) k) points → ls ≡ written r (recovered_lengths ms k) lengths →
          (before now : List ℕ) → MetRecovery a ps ls before now
      unfolding recovery_call roomy
      met_written all us same k count a ps ls e p l before now =
          let told : call.answer ≡ refused_by room_rows given = after_marks ∙ rows_pass (vertex_rows ms vs) all _ in (
            rw (same, whole, count) at e ∙ sym told,
            rw told (rw (same, whole, count) at p),
            rw told (rw (same, whole, count) at l),
            frees_call before now,
          )
