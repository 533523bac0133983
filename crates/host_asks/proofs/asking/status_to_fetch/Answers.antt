use Rattle.std.proofs.Common.{Bool, MatchBool, inl, inr, subst, sym, true, ◌∙◌, ◌≡◌}
use Rattle.host_asks.specs.Fetching.{lengthens}
use Rattle.host_tables.specs.Tables.{held_of}
use Rattle.host_walk.specs.Trying.{length_need}
use Rattle.token_types.specs.Covers.{Covers}
use Rattle.host_asks.proofs.asking.status_to_fetch.Goals as goal

pub returns-then-lacks_length : goal.returns-then-lacks_length
returns-then-lacks_length c =
    let lacks = subst (λ (b : Bool). MatchBool b ((lengthens c.args.call.now c.args.length
    ≡ true) × (Covers (held_of c.args.tables.now) (length_need c.args.fid) → ⊥))
    ((lengthens c.args.call.now c.args.length ≡ true) → Covers (held_of c.args.tables.now) (length_need c.args.fid)))
    c.if-lacks_length.true c.lacks_length.ensures in
    inl (c.length_need.ensures, lacks.0, lacks.1)

pub returns-then-is_lost : goal.returns-then-is_lost
returns-then-is_lost c =
    let has = subst (λ (b : Bool). MatchBool b ((lengthens c.args.call.now c.args.length
    ≡ true) × (Covers (held_of c.args.tables.now) (length_need c.args.fid) → ⊥))
    ((lengthens c.args.call.now c.args.length ≡ true) → Covers (held_of c.args.tables.now) (length_need c.args.fid)))
    c.if-lacks_length.false c.lacks_length.ensures in
    inr (c.status_need.ensures, sym c.is_lost.ensures ∙ c.if-is_lost.true, has)

pub returns : goal.returns
returns c =
    let has = subst (λ (b : Bool). MatchBool b ((lengthens c.args.call.now c.args.length
    ≡ true) × (Covers (held_of c.args.tables.now) (length_need c.args.fid) → ⊥))
    ((lengthens c.args.call.now c.args.length ≡ true) → Covers (held_of c.args.tables.now) (length_need c.args.fid)))
    c.if-lacks_length.false c.lacks_length.ensures in
    (sym c.is_lost.ensures ∙ c.if-is_lost.false, has)
