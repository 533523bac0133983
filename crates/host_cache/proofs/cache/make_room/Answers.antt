use Rattle.std.proofs.Common.{◌≡◌, sym, ◌∙◌, subst, Some}
use Rattle.host_cache.specs.Files.{file_key, Puts, Grows}
use Rattle.host_cache.specs.Parts.{Parts}
use Rattle.host_cache.proofs.Filing.{lent_at, absent_at, room_made, puts}
use Rattle.host_cache.proofs.cache.make_room.Goals as goal

pub returns-in_err-make_room-clause-grows : goal.returns-in_err-make_room-clause-grows
returns-in_err-make_room-clause-grows c =
    let old = c.args.files.now.entries in
    let key = file_key c.args.token.now.fid in
    let w = c.make_room.new.self in
    let new = (c.get_mut.follows.lender w).entries in
    let h = lent_at old key c.file_key-key.result c.file_key-key.ensures new c.in-Some.file.now w
    c.in-Some.ensures.value
    (λ some. ((c.get_mut.follows.holds w).3 some).0) in
    room_made old new key w h.0 (subst (λ (p : Parts). Grows p w) (sym h.1) c.make_room.ensures.grows)

pub returns-in-Some-clause-grows : goal.returns-in-Some-clause-grows
returns-in-Some-clause-grows c =
    let old = c.args.files.now.entries in
    let key = file_key c.args.token.now.fid in
    let w = c.make_room.new.self in
    let new = (c.get_mut.follows.lender w).entries in
    let h = lent_at old key c.file_key-key.result c.file_key-key.ensures new c.in-Some.file.now w
    c.in-Some.ensures.value
    (λ some. ((c.get_mut.follows.holds w).3 some).0) in
    room_made old new key w h.0 (subst (λ (p : Parts). Grows p w) (sym h.1) c.make_room.ensures.grows)

pub returns-clause-grows : goal.returns-clause-grows
returns-clause-grows c =
    let old = c.args.files.now.entries in
    let key = file_key c.args.token.now.fid in
    let w = c.make_room-2.new.self in
    let new = c.insert.new.self.entries in
    let same : c.get_mut.follows.lender-at-none.entries ≡ old = λ i. (c.get_mut.follows.holds-at-none i).entries in
    let none = absent_at old key c.file_key-key.result c.file_key-key.ensures c.in_default.ensures.value in
    let here = puts c.get_mut.follows.lender-at-none.entries new c.file_key-key.result (Some w)
    c.in_ok-insert.ensures.updates.0 in
    let put = subst (λ k. Puts old k w new) c.file_key-key.ensures
    (subst (λ es. Puts es c.file_key-key.result w new) same here) in
    room_made old new key w put
    (subst (λ (p : Parts). Grows p w) (c.new-file.ensures ∙ sym none) c.make_room-2.ensures.grows)
