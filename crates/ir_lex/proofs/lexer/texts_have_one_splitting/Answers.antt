use Rattle.ir_lex.proofs.OneSplit.{bad_place_only, tokens_only}
use Rattle.ir_lex.proofs.Reading.{place_is_bad, tokens_are}
use Rattle.ir_lex.proofs.lexer.texts_have_one_splitting.Goals as goal

pub returns-clause-tokens : goal.returns-clause-tokens
returns-clause-tokens c = λ bytes tokens. (tokens_are bytes tokens, tokens_only bytes tokens)

pub returns-clause-refused : goal.returns-clause-refused
returns-clause-refused c = λ bytes line. (place_is_bad bytes line, bad_place_only bytes line)
