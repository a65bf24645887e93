-- The legs that are added to a plan are those of the relation, and whoever has written what that comes to has said it.
use Rattle.std.proofs.Common.{◌≡◌, ℕ, zero, suc, ◌<◌, ◌≤◌, inl, inr, List, [], ◌∷◌, length, get_or, take, refl, sym, ap, subst, ◌∙◌, arith}
use Rattle.std.specs.Prelude.{Option, Some, None, unwrap_or}
use Rattle.std.specs.Option.{option_map}
use Rattle.std.specs.Io.KnownBytes.{Appends}
use Rattle.std.proofs.lemmas.Bool.{ltb-true, cases_order}
use Rattle.std.proofs.lemmas.List.{take_at, take-append-le, get_or_append_left, get_or_push, length_push}
use Rattle.desk_folder.specs.declared.files.File.TheVariants as file
use Rattle.desk_folder.specs.Outputs.{FileText}
use Rattle.desk_folder.proofs.PutAll.{whole-first, whole-end}
use Rattle.desk_data.specs.declared.broken.Broken.{Broken}
use Rattle.desk_data.specs.Situation.{Situation, legs_of}
use Rattle.desk_data.specs.PlanRows.{PlanRows}
use Rattle.desk_data.specs.Valid.{IsPlanFor}
use Rattle.desk_rules.specs.Least.{least}
use Rattle.desk_rules.specs.Cost.{cost}
use Rattle.added_legs.specs.declared.added.Added.{Added}
use Rattle.added_legs.specs.Added.{cost_added}
use Rattle.added_legs.specs.Ferried.{with_added, next_added, IsFerried}
use Rattle.added_legs.proofs.FerriedLaws.{next_passes, each_pays}
use Rattle.added_legs.proofs.MergedLaws.{is_untouched}
use Rattle.output_texts.specs.FerryText.{added_text}
use Rattle.desk_tasks.specs.Outcome.{Texts}
use Rattle.desk_tasks.specs.Runs.{World, IsWritten}
use Rattle.desk_tasks.specs.Judge.{Judged, verdict_report}
use Rattle.desk_tasks.specs.Ferry.{added_on, ferried, ferried_report, ferry_file, ferry_report, ferry_outcome, ferried_plan}
use Rattle.desk_tasks.specs.Headline.{TellsAdded, TellsBroken, HasFerried}
use Rattle.desk_tasks.proofs.HeadlineLaw.{keeps_of}

-- ---- the legs that are added

-- of a list that may go on: each leg is the next one after those before it
abbrev IsBegun : Situation → PlanRows → List Added → Type 0
IsBegun I P A = (k : ℕ) (a : Added) → k < length A → next_added I P (take k A) ≡ Some (get_or A k a)

begun_more : (I : Situation) (P : PlanRows) (A : List Added) (a : Added) → IsBegun I P A → next_added I P A ≡ Some a → IsBegun I P (with_added A a)
begun_more I P A a begun is k b lt =
    elim (cases_order k (length A)) [
      | inl same ↦
          ap (next_added I P) (take_at A (a ∷ []) k (sym same)) ∙ is ∙ ap Some (sym (get_or_push A a b k (sym same)))
      | inr apart ↦ elim apart [
        | inl less ↦
            ap (next_added I P) (take-append-le k A (a ∷ []) (omega (arith, less))) ∙ begun k b less ∙ ap Some (sym (get_or_append_left A (a ∷ []) b k less))
        | inr more ↦ absurd (omega (arith, lt, more, length_push A a))
      ]
    ]

-- with a next leg the cost is lower
lower : (I : Situation) (P : PlanRows) (A : List Added) (a : Added) → next_added I P A ≡ Some a → cost_added I P (with_added A a) < cost_added I P A
lower I P A a is = ltb-true (cost_added I P (with_added A a)) (cost_added I P A) (next_passes I P A a is).0

ends : (I : Situation) (P : PlanRows) (A : List Added) → IsBegun I P A → next_added I P A ≡ None → IsFerried I P A
ends I P A begun none = record { each = begun; done = none }

none_free : (I : Situation) (P : PlanRows) (A : List Added) (o : Option Added) → next_added I P A ≡ o → cost_added I P A ≤ 0 → next_added I P A ≡ None
none_free I P A None is free = is
none_free I P A (Some a) is free = absurd (let less = lower I P A a is in omega (arith, less, free))

-- a list that goes on as the next one says
goes_on : (more : ℕ) (I : Situation) (P : PlanRows) (A : List Added) → IsBegun I P A → ((a : Added) → next_added I P A ≡ Some a → IsFerried I P (added_on more I P (with_added A a)))
    → (o : Option Added) → next_added I P A ≡ o → IsFerried I P (unwrap_or (option_map (λ a. added_on more I P (with_added A a)) o) A)
goes_on more I P A begun later None is = ends I P A begun is
goes_on more I P A begun later (Some a) is = later a is

-- each leg lowers the cost, so as many as the plan costs grains are enough
on_is : (more : ℕ) (I : Situation) (P : PlanRows) (A : List Added) → IsBegun I P A → cost_added I P A ≤ more → IsFerried I P (added_on more I P A)
unfolding added_on
on_is zero I P A begun few = ends I P A begun (none_free I P A (next_added I P A) refl few)
on_is (suc more) I P A begun few =
    goes_on more I P A begun
    (λ a is. let less = lower I P A a is in on_is more I P (with_added A a) (begun_more I P A a begun is) (omega (arith, less, few)))
    (next_added I P A) refl

pub ferried_is : (I : Situation) (P : PlanRows) → IsFerried I P (ferried I P)
unfolding ferried
ferried_is I P = on_is (cost_added I P []) I P [] (λ k a lt. absurd (omega (arith, lt))) (omega arith)

-- ---- what is written

abbrev texts_by : Situation → PlanRows → Option Broken → Texts
texts_by I P o = record { files = (file.SolAdded, ferry_file I P o) ∷ []; report = ferry_report I P o }

texts_are : (I : Situation) (P : PlanRows) (o : Option Broken) → least I P ≡ o → (ferry_outcome I P).texts ≡ texts_by I P o
unfolding ferry_outcome
texts_are I P o is = ap (texts_by I P) is

-- what is put of one file and a report
abbrev Tells : World → World → List ℕ → List ℕ → Type 0
Tells before now text report = Appends (before.folder.written file.SolAdded) (now.folder.written file.SolAdded) text × Appends before.sink.written now.sink.written report

tells : (before now : World) (text report : List ℕ) → IsWritten before now (record { files = (file.SolAdded, text) ∷ []; report = report }) → Tells before now text report
tells before now text report w =
    let Reported : Type 0 = Appends before.sink.written now.sink.written report in
    let one : FileText = (file.SolAdded, text) in (
      whole-first Reported one [] before.folder now.folder w,
      whole-end Reported (one ∷ []) before.folder now.folder w,
    )

tells_by : (before now : World) (I : Situation) (P : PlanRows) (o : Option Broken) → least I P ≡ o → IsWritten before now (ferry_outcome I P).texts → Tells before now (ferry_file I P o) (ferry_report I P o)
tells_by before now I P o is w = tells before now (ferry_file I P o) (ferry_report I P o) (subst (λ (t : Texts). IsWritten before now t) (texts_are I P o is) w)

tells_added : (before now : World) (I : Situation) (P : PlanRows) → length P.rows ≡ legs_of I → Tells before now (added_text I P (ferried I P)) (ferried_report I P (ferried I P)) → TellsAdded before now I P (ferried I P)
tells_added before now I P all h = record {
  ferried = ferried_is I P;
  pays = each_pays I P (ferried I P) (ferried_is I P);
  untouched = is_untouched I P (ferried I P) all;
  file = h.0;
  reported = h.1;
}

tells_broken : (before now : World) (I : Situation) (P : PlanRows) (item : Broken) → Tells before now [] (verdict_report I (Some item) (cost I P)) → TellsBroken before now I P item
tells_broken before now I P item h = record {
  no_file = keeps_of (before.folder.written file.SolAdded) (now.folder.written file.SolAdded) h.0;
  reported = h.1;
}

pub has-ferried : (before now : World) (j : Judged) → IsPlanFor j.day j.plan → IsWritten before now (ferried_plan j).texts → HasFerried before now j
has-ferried before now j for w = record {
  legs = ferried j.day j.plan;
  added = λ none. tells_added before now j.day j.plan for.legs (tells_by before now j.day j.plan None none w);
  broken = λ item some. tells_broken before now j.day j.plan item (tells_by before now j.day j.plan (Some item) some w);
}
