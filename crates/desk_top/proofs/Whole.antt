-- A written journal reads back.
use Rattle.std.proofs.Common.{◌≡◌, ℕ, ◌≤◌, true, List, [], ◌∷◌, map, get_or, Ok, refl}
use Rattle.std.specs.List.{AllByRecursion}
use Rattle.std.proofs.lemmas.Bool.{le-leb, and_from}
use Rattle.std.proofs.lemmas.List.Elements.{recursion_from_All}
use Rattle.desk_data.specs.Situation.{Situation, no_leg, no_plane, no_res}
use Rattle.desk_data.specs.Valid.{IsSeen, IsValid}
use Rattle.desk_build.specs.declared.joining.Built.{Built}
use Rattle.desk_model.specs.declared.answer.Entry.{Entry}
use Rattle.desk_text.specs.Seen.{is_seen}
use Rattle.desk_journal.specs.Journal.{journal_rows_of}
use Rattle.file_joins.specs.Join.{events_of}
use Rattle.output_texts.specs.Lines.{journal_text}
use Rattle.desk_top.specs.Lengths.{HasNames}
use Rattle.desk_top.specs.Named.{asked, rows_of_history, CanBeReadBack}
use Rattle.desk_top.proofs.StepsBack.{IsReadable}
use Rattle.desk_top.proofs.RowsBack.{journal_back, legal_reads}
use Rattle.desk_top.proofs.EventsBack.{events_back}

-- ---- names

all_seen : (name : List ℕ) → AllByRecursion (λ byte. (0x21 ≤ byte) × (byte ≤ 0x7e)) name → is_seen name ≡ true
all_seen [] seen = refl
all_seen (b ∷ name) seen = and_from _ _ (and_from _ _ (le-leb 33 b seen.0.0) (le-leb b 126 seen.0.1)) (all_seen name seen.1)

seen_test : (name : List ℕ) → IsSeen name → is_seen name ≡ true
seen_test name seen = all_seen name (recursion_from_All (λ byte. (0x21 ≤ byte) × (byte ≤ 0x7e)) name seen)

readable : (I : Situation) → IsValid I → HasNames I → IsReadable I
readable I valid names = record {
  legs = λ x lt.
      let long = names.legs x no_leg lt in
      record { some = long.least; most = long.most; seen = seen_test (get_or I.parts.legs x no_leg).flight (valid.parts.legs x no_leg lt).flight };
  days = λ x lt. (valid.parts.legs x no_leg lt).day;
  planes = λ p lt.
      let long = names.planes p no_plane lt in
      record { some = long.least; most = long.most; seen = seen_test (get_or I.parts.planes p no_plane).name (valid.parts.planes p no_plane lt).name };
  res = λ r lt.
      let long = names.res r no_res lt in
      record { some = long.least; most = long.most; seen = seen_test (get_or I.parts.res r no_res).name (valid.parts.res r no_res lt).name };
}

-- ---- journals

-- the text is read as the rows of the entries
pub rows_are_read : (built : Built) (h : List Entry) → CanBeReadBack built.inst built.batches h → journal_rows_of (journal_text built.inst h) ≡ Ok (rows_of_history built.inst h)
rows_are_read built h c =
    journal_back built.inst (readable built.inst c.valid c.names) h (legal_reads built.inst built.batches h c.legal c.order c.few c.callers) c.small

-- and these are joined to the events
pub rows_are_joined : (built : Built) (h : List Entry) → CanBeReadBack built.inst built.batches h → events_of built (rows_of_history built.inst h) ≡ Ok (map asked h)
unfolding events_of
rows_are_joined built h c = events_back built.inst c.valid.parts.distinct built.batches h c.legal c.order
