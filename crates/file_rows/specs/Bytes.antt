-- The bytes that have a meaning in the text files.
use Rattle.std.specs.Prelude.{ℕ}

-- what stands between fields
abbrev pub space : ℕ
space = 32

abbrev pub tab : ℕ
tab = 9

-- what ends a line, and what may stand before that
abbrev pub line_feed : ℕ
line_feed = 10

abbrev pub carriage_return : ℕ
carriage_return = 13

-- what stands between the fields of a comma file
abbrev pub comma : ℕ
comma = 44

-- '#', which begins a line from which on a text is not read
abbrev pub hash : ℕ
hash = 35

-- what stands before the decimals of a number
abbrev pub point : ℕ
point = 46

-- '/', between the parts of a date, and between seats
abbrev pub slash : ℕ
slash = 47

-- what stands between hours and minutes
abbrev pub colon : ℕ
colon = 58

-- '-', between the parts of a maintenance
abbrev pub dash : ℕ
dash = 45

-- '+', before the days that a time adds
abbrev pub plus : ℕ
plus = 43

-- the bytes that can be seen, from '!' to '~'
abbrev pub first_visible : ℕ
first_visible = 0x21

abbrev pub last_visible : ℕ
last_visible = 0x7e
