-- What has been read of a document by its first bytes.
use Rattle.std.specs.Prelude.{[], ◌∷◌, codes, refl}
use Rattle.jl_model.specs.declared.tokens.Token.TheVariants.{OpenArray}
use Rattle.jl_model.specs.JsonTree.{no_item}
use Rattle.jl_defs.specs.OpenTree.{unread, in_array}
use Rattle.jl_defs.specs.OpenText.{Opens, OpenText}

-- [
row_1 : Opens (codes "[") (in_array 0 no_item unread)
unfolding OpenText
row_1 = (
  OpenArray 0 ∷ [],
  record {
    front_tokens = [];
    back_tokens = OpenArray 0 ∷ [];
    front = [];
    back = codes "[";
    tokens_are = refl;
    text_is = refl;
    in_first = record { tokens_are = refl; blank = tt };
    in_second = record {
      place_is = refl;
      left = 255;
      room_is = refl;
      spelled = record {
        front_tokens = OpenArray 0 ∷ [];
        back_tokens = [];
        front = codes "[";
        back = [];
        tokens_are = refl;
        text_is = refl;
        in_first = record { tokens_are = refl; text_is = refl };
        in_second = record { tokens_are = refl; blank = tt };
      };
    };
  },
)
