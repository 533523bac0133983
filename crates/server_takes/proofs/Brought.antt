-- Acts that are done for messages.
use Rattle.std.proofs.Common.{List, [], ◌∷◌, ◌++◌, inl, inr, refl, sym, subst}
use Rattle.base_types.specs.declared.ids.HostId.{HostId}
use Rattle.message_types.specs.Soundness.{Each}
use Rattle.message_types.specs.declared.giving.Give.{Give}
use Rattle.message_types.specs.declared.message.Body.TheVariants.{GiveBack}
use Rattle.message_types.specs.declared.message.Message.{Message}
use Rattle.store_acts.specs.declared.act.Act.{Act}
use Rattle.server_looks.specs.Acts.{giving}
use Rattle.server_looks.specs.Keepers.{HasBrought, IsDoneFor}
use Rattle.server_takes.specs.Messages.{IsOneMore}

-- one give-back more waits, which was brought
pub more_done : (came : List Message) (host : HostId) (give : Give) (old new : List Act) → IsOneMore host give old new
    → HasBrought came host (GiveBack give) → Each (IsDoneFor came) old → Each (IsDoneFor came) new
more_done came host give old new (inl e) brought all = subst (Each (IsDoneFor came)) (sym e) all
more_done came host give old new (inr e) brought all = subst (Each (IsDoneFor came)) (sym e) (ends old all)
  where
    ends : (acts : List Act) → Each (IsDoneFor came) acts → Each (IsDoneFor came) (acts ++ giving host give ∷ [])
    ends [] all = ((give, brought, refl), tt)
    ends (a ∷ acts) all = (all.0, ends acts all.1)
