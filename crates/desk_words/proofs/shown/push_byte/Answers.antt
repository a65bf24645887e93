use Rattle.desk_words.proofs.shown.push_byte.Goals as goal

pub returns-clause-shown : goal.returns-clause-shown
returns-clause-shown c all =
    c.push_printed-5.ensures.shown (c.push_printed-4.ensures.shown (c.push_printed-3.ensures.shown (c.push_printed-2.ensures.shown all)))
