mod BodyLaws
mod CallLaws
mod CountLaws
mod RunLaws
mod ShapeLaws
mod SizeLaws
mod Tells
