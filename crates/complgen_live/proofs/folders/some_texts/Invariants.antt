use Rattle.std.proofs.Common.{◌≡◌, ◌++◌, drop, map, filter}
use Rattle.std.specs.String.{string_bytes}
use Rattle.complgen_live.specs.Folders.{is_some_text}
use Rattle.complgen_live.proofs.folders.some_texts.Given as goal

abbrev pub invariant-loop-text : goal.invariant-loop-text
invariant-loop-text l = map string_bytes l.copies.items
    ++ filter is_some_text (map (λ text. text.now) (drop l.text-index l.texts))
    ≡ filter is_some_text (map (λ text. text.now) l.texts)
