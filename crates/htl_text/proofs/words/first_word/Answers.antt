-- A line that is all blanks has no words; else its first word stands after the first blanks.
use Rattle.std.proofs.Common.{rules}
use Rattle.htl_text.proofs.FirstWord.{no_words, words_begin}
use Rattle.htl_text.proofs.words.first_word.Goals as goal

pub returns-then-is_empty : goal.returns-then-is_empty
returns-then-is_empty c = search (rules, no_words c.args.line.now)

pub returns : goal.returns
returns c = search (rules, words_begin c.args.line.now c.split_at.result.1.now)
