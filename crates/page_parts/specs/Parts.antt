-- What is put on a page.
use Rattle.std.specs.Prelude.{ℕ, List, decimal}
use Rattle.page_parts.specs.declared.page.Part.{Part}
use Rattle.page_parts.specs.declared.page.Part.TheVariants as part
use Rattle.page_parts.specs.Escaped.{escaped}

-- a part as it stands there: markup of the program's own as it is, a number in decimal, and bytes from elsewhere escaped
abbrev pub part_bytes : Part → List ℕ
part_bytes (part.Own text) = text.now
part_bytes (part.Number n) = decimal n
part_bytes (part.Given bytes) = escaped bytes.now
