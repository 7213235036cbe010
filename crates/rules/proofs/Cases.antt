-- Each case by computation.
use mathlib.Core.Path.{refl}
use Rattle.rules.specs.Laws.{All}
use Rattle.rules.specs.Cases.{Holds, cases}
use Rattle.rules.proofs.Open.{rules}

pub proved : All Holds cases
unfolding rules
proved = (
  (refl, (refl, (refl, (refl, (refl, (refl, (refl, (refl, (refl, tt))))))))),
  (
    (refl, (refl, (refl, (refl, tt)))),
    (
      (refl, (refl, (refl, (refl, (refl, tt))))),
      (
        (refl, (refl, (refl, (refl, tt)))),
        (
          (refl, (refl, (refl, (refl, tt)))),
          (
            (refl, (refl, tt)),
            (
              (refl, (refl, tt)),
              (
                (refl, (refl, (refl, (refl, (refl, (refl, tt)))))),
                tt,
              ),
            ),
          ),
        ),
      ),
    ),
  ),
)
