-- Rules: Arguments, Compounds, Declared, Laws, Profile, Rules, Takes.
pub mod Arguments
pub mod Compounds
pub mod Declared
pub mod Laws
pub mod Profile
pub mod Rules
pub mod Takes
