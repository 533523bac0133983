-- What the fields of a board stand for, after something was given.
use Rattle.std.proofs.Common.{◌≡◌, ◌-◌, List, ap, ◌∙◌}
use Rattle.std.specs.Prelude.{vec_capacity, vec_len}
use Rattle.base_types.specs.declared.ids.Node.{Node}
use Rattle.hub_wire.specs.Networks.{Network, Wired}
use Rattle.hub_board.specs.Hubs.{Hubbed, gift_for, without}
use Rattle.hub_board.specs.Turning.{Posted}
use Rattle.hub_board.specs.declared.follow.Follow.{Follow}
use Rattle.hub_board.specs.declared.board.Board.TheInside.{Inside}

abbrev pub hub_of : Inside → Hubbed
hub_of s = record { net = s.wire.counted; follows = s.follows; ties = s.ties }

abbrev pub board_of : Inside → Posted
board_of s = record { turns = s.turns.items; hub = hub_of s; spare = vec_capacity s.turns - vec_len s.turns }

-- parts that are equal make one hub
pub moved : (hub : Hubbed) (n n' : Network) (fs fs' : List Follow) → n ≡ n' → fs ≡ fs'
    → record hub { net = n; follows = fs } ≡ record hub { net = n'; follows = fs' }
moved hub n n' fs fs' e f = λ i. record hub { net = e i; follows = f i }

pub give_view : (s : Inside) (b : Posted) (wire : Wired) (follows : List Follow) (node : Node) → board_of s ≡ b
    → record (hub_of s) { net = wire.counted; follows = follows } ≡ without (gift_for (hub_of s) node) node (hub_of s)
    → board_of (record s { wire = wire; follows = follows }) ≡ record b
    { hub = without (gift_for b.hub node) node b.hub }
give_view s b wire follows node view e =
    ap (λ (h : Hubbed). record (board_of s) { hub = h }) e
    ∙ ap (λ (x : Posted). record x { hub = without (gift_for x.hub node) node x.hub }) view
