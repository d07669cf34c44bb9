use Rattle.std.proofs.Common.{sym, subst}
use Rattle.pl_text.specs.Tokens.{AreTokensOf}
use Rattle.pl_text.proofs.TokenLaws.{AreTokensOf-tokens, tokens-only}
use Rattle.pl_text.proofs.laws.tokens_are_those.Goals as goal

pub returns : goal.returns
returns c = λ bytes found.
    (tokens-only bytes found, λ is. subst (AreTokensOf bytes) (sym is) (AreTokensOf-tokens bytes))
