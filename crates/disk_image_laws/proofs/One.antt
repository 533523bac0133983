-- A disk has at most one image.
use Rattle.std.proofs.Common.{◌≡◌, ℕ, List, sym, ◌∙◌, ap}
use Rattle.std.specs.Prelude.{Option, Some, is_some}
use Rattle.disk_layout.specs.declared.superblock.Superblock.{Superblock}
use Rattle.disk_image.specs.Aggregate.{superblock_of}
use Rattle.disk_image.specs.Image.{Image, image_of}
use Rattle.disk_image.proofs.Images.{image_there}
use Rattle.disk_image_laws.specs.Formed.{ImageIsOne}

some_same : {X : Type 0} (a b : X) → Some a ≡ Some b → a ≡ b
some_same a b e = cc

server_is : (image : List ℕ) (a : ℕ) (x : Image) → image_of a image ≡ Some x → (superblock : Superblock) × (superblock_of image ≡ Some superblock) × (superblock.server ≡ a)
server_is image a x is = ((image_there a image).0 (ap (λ (o : Option Image). is_some o) is)).2

pub image_is_one : ImageIsOne
image_is_one image a b x y first second =
    let one = server_is image a x first in
    let two = server_is image b y second in
    let e : a ≡ b = sym one.2 ∙ ap (λ (s : Superblock). s.server) (some_same one.0 two.0 (sym one.1 ∙ two.1)) ∙ two.2 in
    (e, some_same x y (sym first ∙ ap (λ server. image_of server image) e ∙ second))
