use Rattle.need_laws.proofs.Idle.{others_mind_no_uses}
use Rattle.need_laws.proofs.Uses.{locks_mind_uses, opens_mind_uses, removes_mind_uses}
use Rattle.need_laws.proofs.laws.use_law.Goals as goal

pub returns : goal.returns
returns c = record {
  others = others_mind_no_uses;
  removes = removes_mind_uses;
  locks = locks_mind_uses;
  opens = opens_mind_uses;
}
