use Rattle.std.proofs.Common.{rules, ◌≡◌, ◌∙◌, List, ℕ, sym, subst}
use Rattle.std.specs.Prelude.{Option, IfOk}
use Rattle.std.proofs.lemmas.Bool.{false≢true}
use Rattle.disk_layout.specs.Half.{used_half}
use Rattle.disk_layout.specs.Places.{pages_of}
use Rattle.disk_layout.specs.Superblock.{IsSuperblock}
use Rattle.disk_layout.specs.declared.superblock.Superblock.{Superblock}
use Rattle.disk_image.specs.Refused.{refused_at, refused_behind}
use Rattle.disk_check.specs.declared.fault.CheckRefused.{CheckRefused}
use Rattle.disk_check.proofs.Fronts.{ok_then}
use Rattle.disk_check.proofs.Refusing.{place_blank, place_none, place_out, place_other, place_own}
use Rattle.disk_check.proofs.mountable.refusal.Goals as goal

pub returns-then-blank-clause-place : goal.returns-then-blank-clause-place
returns-then-blank-clause-place g c = λ told.
    sym (place_blank c.args.server.0 c.args.servers (g.D.Disk.view c.args.disk.now).image ((c.in_ok-blank.ensures.blank told).0 (search rules)))

pub returns-in-None-clause-place : goal.returns-in-None-clause-place
returns-in-None-clause-place g c = λ told.
    (let image = (g.D.Disk.view c.args.disk.now).image in
    let none : (superblock : Superblock) → IsSuperblock superblock (g.D.Disk.view c.is_blank.new.disk).image → ⊥ = rw c.in-None.is at (c.in_ok-found.ensures.front told) in
    sym (place_none c.args.server.0 c.args.servers image (λ blank. absurd (false≢true (sym c.if-blank.false ∙ (c.in_ok-blank.ensures.blank told).1 blank)))
    (λ superblock is first last some. none superblock (subst (λ (i : List ℕ). IsSuperblock superblock i) (sym c.is_blank.ensures.quiet.image) is))))

pub returns-then-not-is_aggregate-clause-place : goal.returns-then-not-is_aggregate-clause-place
returns-then-not-is_aggregate-clause-place g c = λ told.
    (let image = (g.D.Disk.view c.args.disk.now).image in
    let found : IsSuperblock c.in-Some.superblock (g.D.Disk.view c.is_blank.new.disk).image = rw c.in-Some.is at (c.in_ok-found.ensures.front told) in
    sym (place_out c.args.server.0 c.args.servers image c.in-Some.superblock (λ blank. absurd (false≢true (sym c.if-blank.false ∙ (c.in_ok-blank.ensures.blank told).1 blank)))
    (subst (λ (i : List ℕ). IsSuperblock c.in-Some.superblock i) c.is_blank.ensures.quiet.image found) (sym c.is_aggregate.ensures ∙ c.if-not-is_aggregate.true)))

pub returns-then-superblock-server-clause-place : goal.returns-then-superblock-server-clause-place
returns-then-superblock-server-clause-place g c = λ told.
    (let image = (g.D.Disk.view c.args.disk.now).image in
    let found : IsSuperblock c.in-Some.superblock (g.D.Disk.view c.is_blank.new.disk).image = rw c.in-Some.is at (c.in_ok-found.ensures.front told) in
    sym (place_other c.args.server.0 c.args.servers image c.in-Some.superblock (λ blank. absurd (false≢true (sym c.if-blank.false ∙ (c.in_ok-blank.ensures.blank told).1 blank)))
    (subst (λ (i : List ℕ). IsSuperblock c.in-Some.superblock i) c.is_blank.ensures.quiet.image found) (sym c.is_aggregate.ensures ∙ c.if-not-is_aggregate.false) c.if-superblock-server.true))

pub returns-else-superblock-server-clause-place : goal.returns-else-superblock-server-clause-place
returns-else-superblock-server-clause-place g c = λ told.
    (let image = (g.D.Disk.view c.args.disk.now).image in
    let superblock = c.in-Some.superblock in
    let found : IsSuperblock superblock (g.D.Disk.view c.is_blank.new.disk).image = rw c.in-Some.is at (c.in_ok-found.ensures.front told) in
    let still : (g.D.Disk.view c.found_superblock.new.disk).image ≡ image = c.found_superblock.ensures.quiet.image ∙ c.is_blank.ensures.quiet.image in
    let here : IsSuperblock superblock image = subst (λ (i : List ℕ). IsSuperblock superblock i) c.is_blank.ensures.quiet.image found in
    ok_then {T = Option ℕ} {E = CheckRefused} c.place_behind.result (λ place. place ≡ refused_behind c.args.servers superblock (used_half (pages_of superblock.blocks) image) image) (λ place. place ≡ refused_at c.args.server.0 c.args.servers image)
    (subst (λ (i : List ℕ). IfOk c.place_behind.result (λ place. place ≡ refused_behind c.args.servers superblock (used_half (pages_of superblock.blocks) i) i)) still (c.place_behind.ensures.place told (subst (λ (i : List ℕ). IsSuperblock superblock i) (sym still) here)))
    (λ place e. e ∙ place_own c.args.server.0 c.args.servers image superblock (λ blank. absurd (false≢true (sym c.if-blank.false ∙ (c.in_ok-blank.ensures.blank told).1 blank))) here (sym c.is_aggregate.ensures ∙ c.if-not-is_aggregate.false) c.if-superblock-server.false))
