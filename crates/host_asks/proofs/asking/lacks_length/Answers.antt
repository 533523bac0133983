use Rattle.std.proofs.Common.{Bool, IsTrue, MatchBool, subst, sym, true, ◌∙◌, ◌↔◌, ◌≡◌}
use Rattle.host_asks.specs.Fetching.{lengthens}
use Rattle.host_tables.specs.Tables.{held_of}
use Rattle.host_walk.specs.Trying.{length_need}
use Rattle.token_types.specs.Covers.{Covers}
use Rattle.token_types.specs.declared.token.Need.{Need}
use Rattle.host_asks.proofs.Blocks.{lacks_else, lacks_then}
use Rattle.host_asks.proofs.asking.lacks_length.Goals as goal

pub returns-then-lengthens : goal.returns-then-lengthens
returns-then-lengthens c =
    lacks_then (lengthens c.args.call.now c.args.length) c.covers-covered.result (Covers (held_of c.args.tables.now)
    (length_need c.args.fid))
    (sym c.lengthens.ensures ∙ c.if-lengthens.true)
    (subst (λ (n : Need). IsTrue c.covers-covered.result ↔ Covers (held_of c.args.tables.now) n) c.length_need.ensures
    c.covers-covered.ensures)

pub returns-else-lengthens : goal.returns-else-lengthens
returns-else-lengthens c =
    subst (λ (b : Bool). MatchBool b ((lengthens c.args.call.now c.args.length
    ≡ true) × (Covers (held_of c.args.tables.now) (length_need c.args.fid)
    → ⊥)) ((lengthens c.args.call.now c.args.length ≡ true)
    → Covers (held_of c.args.tables.now) (length_need c.args.fid))) (sym c.if-lengthens.false)
    (lacks_else (lengthens c.args.call.now c.args.length) (Covers (held_of c.args.tables.now) (length_need
    c.args.fid)) (sym c.lengthens.ensures ∙ c.if-lengthens.false))
