-- Maps over lists.
use Rattle.std.proofs.Common.{◌≡◌, [], ◌∷◌}
