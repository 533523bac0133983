use Rattle.std.proofs.Common.{◌≡◌, true, false, sym, subst}
use Rattle.token_table.specs.Tables.{Table, has_id, is_past}
use Rattle.token_table.proofs.Sound.{sound_placed}
use Rattle.token_table.proofs.table.TokenTable.insert.Goals as goal

pub invariant_of-self-2 : goal.invariant_of-self-2
invariant_of-self-2 c =
    let past = subst (λ (t : Table). is_past t c.args.token.id ≡ true) (sym c.self.view_is) c.requires.past in
    let absent = subst (λ (t : Table). has_id t.tokens c.args.token.id ≡ false)
    (sym c.self.view_is) c.requires.absent in
    rw c.in_ok-insert.ensures.after (sound_placed _ c.args.token past absent c.self.invariant)
