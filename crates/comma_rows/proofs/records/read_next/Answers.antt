use Rattle.csv.specs.Records.{fields_of}
use Rattle.comma_rows.proofs.ReaderLemmas.{next_record_is, still_reading}
use Rattle.comma_rows.proofs.records.read_next.Goals as goal

pub returns-in-Ok-clause-reading : goal.returns-in-Ok-clause-reading
returns-in-Ok-clause-reading c is =
    let reads = c.in-Ok.ensures.reads c.requires.trim c.requires.ready in
    still_reading c.args.reader.now c.read_byte_record.new.self (fields_of c.read_byte_record.new.row) c.requires (rw is at reads) c.in-Ok.ensures.flexible (c.in-Ok.ensures.ready c.requires.trim)

pub returns-in-Ok-clause-exact : goal.returns-in-Ok-clause-exact
returns-in-Ok-clause-exact c =
    next_record_is c.args.reader.now c.read_byte_record.new.self (fields_of c.read_byte_record.new.row) c.requires c.in-Ok.found (c.in-Ok.ensures.reads c.requires.trim c.requires.ready)
