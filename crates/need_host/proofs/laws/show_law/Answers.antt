use Rattle.need_host.proofs.Showing.{tokens_show_parts, shown_agree, nothing_beyond}
use Rattle.need_host.proofs.laws.show_law.Goals as goal

pub returns : goal.returns
returns c = record { tokens = tokens_show_parts; views = shown_agree; beyond = nothing_beyond }
