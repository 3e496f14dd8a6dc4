-- What is written of a wrong line: `line 3: said twice`.
use Rattle.std.specs.Prelude.{ℕ, List, ◌++◌, codes}
use Rattle.std.specs.Prelude as std
use Rattle.items.specs.Messages.{reason_text}
use Rattle.form.specs.declared.WrongLine.{WrongLine}

abbrev pub wrong_text : WrongLine → List ℕ
wrong_text wrong = codes "line " ++ (std.decimal wrong.line ++ (codes ": " ++ reason_text wrong.reason))
