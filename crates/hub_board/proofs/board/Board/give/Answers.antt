use Rattle.std.proofs.Common.{◌≡◌, ◌&&◌, true, false, None, is_some, sym, ap, ◌∙◌}
use Rattle.hub_wire.proofs.Takes.{takes_first}
use Rattle.hub_wire.specs.Networks.{Network, Wired, lapse_place, next_copy, without_copy, without_lapse}
use Rattle.hub_board.specs.Hubs.{Hubbed, begins, flag_of, may_begin}
use Rattle.hub_board.proofs.Boards.{give_view, hub_of, moved}
use Rattle.hub_board.proofs.Giving.{after_begins, after_lapses, after_nothing, after_raises}
use Rattle.hub_board.proofs.board.Board.give.Goals as goal

pub returns-then-begins-clause-rest : goal.returns-then-begins-clause-rest
returns-then-begins-clause-rest c =
    let hub : Hubbed = hub_of c.self.inside in
    let none : None ≡ next_copy hub.net c.args.node = sym c.in_default.is ∙ c.take_copy.ensures.copy in
    let stays = ((takes_first hub.net c.args.node).1 (sym none)).1 in
    let b : (may_begin c.args.node && begins hub c.args.node) ≡ true = sym c.begins.ensures ∙ c.if-begins.true in
    let net : c.take_copy.new.self.counted ≡ without_copy c.args.node hub.net =
    ap (λ (v : Wired). v.counted) c.take_copy.ensures.rest in
    give_view c.self.inside c.args.self.now c.take_copy.new.self c.begin.new.follows c.args.node c.self.view_is
    (moved hub _ _ _ _ net c.begin.ensures ∙ after_begins hub c.args.node stays none b)

pub returns-in-Some-take_flag-clause-rest : goal.returns-in-Some-take_flag-clause-rest
returns-in-Some-take_flag-clause-rest c =
    let hub : Hubbed = hub_of c.self.inside in
    let none : None ≡ next_copy hub.net c.args.node = sym c.in_default.is ∙ c.take_copy.ensures.copy in
    let stays = ((takes_first hub.net c.args.node).1 (sym none)).1 in
    let b : (may_begin c.args.node && begins hub c.args.node) ≡ false = sym c.begins.ensures ∙ c.if-begins.false in
    let net : c.take_copy.new.self.counted ≡ without_copy c.args.node hub.net =
    ap (λ (v : Wired). v.counted) c.take_copy.ensures.rest in
    give_view c.self.inside c.args.self.now c.take_copy.new.self c.take_flag.new.follows c.args.node c.self.view_is
    (moved hub _ _ _ _ net c.take_flag.ensures.rest
    ∙ after_raises hub c.args.node stays c.in-Some-take_flag.flag none b c.in-Some-take_flag.ensures.flag)

pub returns-then-take_lapse-clause-rest : goal.returns-then-take_lapse-clause-rest
returns-then-take_lapse-clause-rest c =
    let hub : Hubbed = hub_of c.self.inside in
    let none : None ≡ next_copy hub.net c.args.node = sym c.in_default.is ∙ c.take_copy.ensures.copy in
    let stays = ((takes_first hub.net c.args.node).1 (sym none)).1 in
    let b : (may_begin c.args.node && begins hub c.args.node) ≡ false = sym c.begins.ensures ∙ c.if-begins.false in
    let net : c.take_copy.new.self.counted ≡ without_copy c.args.node hub.net =
    ap (λ (v : Wired). v.counted) c.take_copy.ensures.rest in
    let flag : None ≡ flag_of hub c.args.node = sym c.in_default-take_flag.is ∙ c.take_flag.ensures.flag in
    let lapse : is_some (lapse_place hub.net c.args.node) ≡ true =
    sym (c.take_lapse.ensures.lapse ∙ ap (λ (n : Network). is_some (lapse_place n c.args.node)) net)
    ∙ c.if-take_lapse.true in
    let then : c.take_lapse.new.self.counted ≡ without_lapse c.args.node (without_copy c.args.node hub.net) =
    ap (λ (v : Wired). v.counted) c.take_lapse.ensures.rest ∙ ap (without_lapse c.args.node) net in
    give_view c.self.inside c.args.self.now c.take_lapse.new.self c.take_flag.new.follows c.args.node c.self.view_is
    (moved hub _ _ _ _ then c.take_flag.ensures.rest ∙ after_lapses hub c.args.node stays none b flag lapse)

pub returns-clause-rest : goal.returns-clause-rest
returns-clause-rest c =
    let hub : Hubbed = hub_of c.self.inside in
    let none : None ≡ next_copy hub.net c.args.node = sym c.in_default.is ∙ c.take_copy.ensures.copy in
    let stays = ((takes_first hub.net c.args.node).1 (sym none)).1 in
    let b : (may_begin c.args.node && begins hub c.args.node) ≡ false = sym c.begins.ensures ∙ c.if-begins.false in
    let net : c.take_copy.new.self.counted ≡ without_copy c.args.node hub.net =
    ap (λ (v : Wired). v.counted) c.take_copy.ensures.rest in
    let flag : None ≡ flag_of hub c.args.node = sym c.in_default-take_flag.is ∙ c.take_flag.ensures.flag in
    let lapse : is_some (lapse_place hub.net c.args.node) ≡ false =
    sym (c.take_lapse.ensures.lapse ∙ ap (λ (n : Network). is_some (lapse_place n c.args.node)) net)
    ∙ c.if-take_lapse.false in
    let then : c.take_lapse.new.self.counted ≡ without_lapse c.args.node (without_copy c.args.node hub.net) =
    ap (λ (v : Wired). v.counted) c.take_lapse.ensures.rest ∙ ap (without_lapse c.args.node) net in
    give_view c.self.inside c.args.self.now c.take_lapse.new.self c.take_flag.new.follows c.args.node c.self.view_is
    (moved hub _ _ _ _ then c.take_flag.ensures.rest ∙ after_nothing hub c.args.node stays none b flag lapse)
