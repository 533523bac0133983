use Rattle.std.proofs.Common.{◌∙◌, refl, sym, ap}
use Rattle.std.specs.Option.{option_copied}
use Rattle.server_says.proofs.claiming.next_admission.Goals as goal

pub returns : goal.returns
returns c = record {
  claimed = c.in-Some.claimed.now;
  ripe = sym c.first_ripe.ensures ∙ ap option_copied c.in-Some.is;
  past = c.in_ok-tokens.ensures.past;
  host = refl;
  tokens = c.in_ok-tokens.ensures.tokens;
}
