use Rattle.std.proofs.Common.{List, sym}
use Rattle.token_types.specs.declared.token.Token.{Token}
use Rattle.need_host.specs.Looks.{View, Look}
use Rattle.need_host.specs.Calls.{Verdict}
use Rattle.need_host.specs.Laws.{AreAlike, AgreeUnder}
use Rattle.need_host.proofs.Looking.{covered_alike, needs_alike, outcome_alike, lack_alike, lacks_are_first}
use Rattle.need_host.proofs.laws.alike_law.Goals as goal

alike : (held : List Token) (a b : View) → AgreeUnder held a b → (look : Look Verdict) → AreAlike held a b look
alike held a b same look = record {
  covered = covered_alike held a b same look;
  needs = needs_alike held a b same look;
  ends = outcome_alike held a b same look;
  lack = lack_alike held a b same look;
}

pub returns : goal.returns
returns c = record {
  views = λ held a b same look. (alike held a b same look, alike held b a (λ fid part covered. sym (same fid part covered)) look);
  lacks = lacks_are_first;
}
